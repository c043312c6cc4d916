use Rattle.std.proofs.Common.{◌+◌, arith}
use Rattle.failure_patterns.proofs.BatchLaws.{batch_within}
use Rattle.cut_witness.proofs.batches.enter_batch.Goals as goal

pub certify_batch-requires-clause-within : goal.certify_batch-requires-clause-within
certify_batch-requires-clause-within g c =
    omega (arith, c.batch_start-to.ensures, c.demands-count.ensures, batch_within (c.args.batch + 1) c.args.batches c.demands-count.result (omega arith))
