use Rattle.std.proofs.Common.{◌+◌, ◌*◌, ◌-◌, length}
use Rattle.net_model.specs.Flows.{flow_network}
use Rattle.unit_flow.specs.Searching.{looks}
use Rattle.unit_flow.proofs.ReachSteps.{IsOnTheWay}
use Rattle.unit_flow.proofs.search.Search.reaches_sink.Given as goal

-- the sink isn't reached, and each look at a link took a step
abbrev pub invariant-loop-self : goal.invariant-loop-self
invariant-loop-self g l = IsOnTheWay (flow_network l.net l.residual.demand) l.residual.states l.entered l.self l.initial.steps l.steps

-- twice the looks that are left, and the nodes on the way
abbrev pub decreases-loop-self : goal.decreases-loop-self
decreases-loop-self g l = l.self.depth + 4 * length l.net.links - 2 * looks l.net.links l.entered l.self
