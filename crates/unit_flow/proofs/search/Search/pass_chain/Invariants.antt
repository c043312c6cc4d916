use Rattle.std.proofs.Common.{◌-◌, None}
use Rattle.unit_flow.specs.Searching.{HasPassed}
use Rattle.unit_flow.proofs.search.Search.pass_chain.Given as goal

-- the node's links before this one were passed, and led to nothing new
abbrev pub invariant-loop-link : goal.invariant-loop-link
invariant-loop-link g l =
    HasPassed l.net l.residual.states l.fn.end l.node l.first l.self.reached.items (record { next = l.link; entry = None }) l.initial.steps l.steps

-- how far the last link is
abbrev pub decreases-loop-link : goal.decreases-loop-link
decreases-loop-link g l = l.count - l.link
