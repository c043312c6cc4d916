use Rattle.std.proofs.Common.{arith}
use Rattle.failure_patterns.proofs.DemandLaws.{some_demand}
use Rattle.cut_witness.proofs.certifying.certify_all_along.Goals as goal

pub certify_batches-requires-clause-some_batches : goal.certify_batches-requires-clause-some_batches
certify_batches-requires-clause-some_batches g c = omega (arith, some_demand c.args.net.now)
