use Rattle.std.proofs.Common.{◌-◌, length}
use Rattle.unit_flow.specs.Taking.{IsCursor}
use Rattle.unit_flow.proofs.decomposing.Undecomposed.next_used.Given as goal

-- no used link before this one leaves the node
abbrev pub invariant-loop-link : goal.invariant-loop-link
invariant-loop-link l = IsCursor l.net.links l.self.residual.states l.node l.link

-- how far the last link is
abbrev pub decreases-loop-link : goal.decreases-loop-link
decreases-loop-link l = length l.net.links - l.link
