use Rattle.std.specs.Vec.Iter.{into_iter_items, into_iter_len}
use Rattle.cut_witness.proofs.BatchSteps.{AreJoined}
use Rattle.cut_witness.proofs.batches.join_batches.Given as goal

-- the certificates of the demands of the batches so far
abbrev pub invariant-loop-batch : goal.invariant-loop-batch
invariant-loop-batch l = AreJoined l.net l.batches l.fn.made.items l.yielded (into_iter_items l.batch-iterator) (into_iter_len l.batch-iterator) l.certs.items
