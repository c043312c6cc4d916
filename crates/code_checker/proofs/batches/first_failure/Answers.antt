use Rattle.std.proofs.Common.{arith}
use Rattle.failure_patterns.proofs.DemandLaws.{some_demand}
use Rattle.code_checker.proofs.batches.first_failure.Goals as goal

pub first_of_batches-requires-clause-some_batches : goal.first_of_batches-requires-clause-some_batches
first_of_batches-requires-clause-some_batches g c = omega (arith, some_demand c.args.code.now.net)
