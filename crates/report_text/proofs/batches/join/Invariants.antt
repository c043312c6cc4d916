use Rattle.std.specs.Vec.Iter.{into_iter_items, into_iter_len}
use Rattle.report_text.proofs.JoinSteps.{AreJoinedSoFar}
use Rattle.report_text.proofs.batches.join.Given as goal

-- the texts so far, put together
abbrev pub invariant-loop-lines : goal.invariant-loop-lines
invariant-loop-lines l = AreJoinedSoFar l.fn.text.items l.fn.batches.items l.yielded (into_iter_items l.lines-iterator) (into_iter_len l.lines-iterator) l.whole.items
