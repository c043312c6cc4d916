use Rattle.std.proofs.Common.{◌+◌, arith}
use Rattle.failure_patterns.proofs.BatchLaws.{batch_within}
use Rattle.code_checker.proofs.batches.enter_batch.Goals as goal

pub first_between-requires-clause-within : goal.first_between-requires-clause-within
first_between-requires-clause-within g c =
    omega (arith, c.batch_start-to.ensures, c.demands-count.ensures, batch_within (c.args.batch + 1) c.args.batches c.demands-count.result (omega arith))
