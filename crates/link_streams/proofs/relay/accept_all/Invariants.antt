use Rattle.std.proofs.Common.{◌-◌}
use Rattle.link_streams.proofs.PassLaws.{AcceptsPieces}
use Rattle.link_streams.proofs.relay.accept_all.Given as goal

abbrev pub invariant-loop-place : goal.invariant-loop-place
invariant-loop-place g l = AcceptsPieces l.stream l.generation (l.place - l.first) l.fn.node l.node
