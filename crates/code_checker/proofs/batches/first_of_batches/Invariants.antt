use Rattle.std.specs.Vec.Iter.{into_iter_items, into_iter_len}
use Rattle.code_checker.proofs.BatchSteps.{AreClearBatches}
use Rattle.code_checker.proofs.batches.first_of_batches.Given as goal

-- the batches so far have no failure
abbrev pub invariant-loop-first : goal.invariant-loop-first
invariant-loop-first l = AreClearBatches l.code l.batches l.fn.made.items l.yielded (into_iter_items l.first-iterator) (into_iter_len l.first-iterator)
