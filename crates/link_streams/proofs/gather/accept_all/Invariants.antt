use Rattle.std.proofs.Common.{◌-◌}
use Rattle.link_streams.proofs.GatherLaws.{TakesPieces}
use Rattle.link_streams.proofs.gather.accept_all.Given as goal

abbrev pub invariant-loop-place : goal.invariant-loop-place
invariant-loop-place g l = TakesPieces l.stream l.generation (l.place - l.first) l.fn.sink l.sink
