use Rattle.std.proofs.Common.{length, take}
use Rattle.unit_flow.proofs.StartSteps.{AreMarked}
use Rattle.unit_flow.proofs.residual.Residual.start.Given as goal

-- the links of the pattern before this one failed, and none is used
abbrev pub invariant-loop-link : goal.invariant-loop-link
invariant-loop-link l = AreMarked (length l.net.links) (take l.link-index l.link-items) l.states.items
