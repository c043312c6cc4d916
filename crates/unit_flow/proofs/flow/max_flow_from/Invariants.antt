use Rattle.std.proofs.Common.{◌-◌, length}
use Rattle.unit_flow.specs.Residual.{AreEntered}
use Rattle.unit_flow.proofs.FlowSteps.{IsFlowing}
use Rattle.unit_flow.proofs.flow.max_flow_from.Given as goal

-- the used links are a flow of so many units, and the nodes that they lead into are marked
abbrev pub invariant-loop-value : goal.invariant-loop-value
invariant-loop-value g l = record {
  flowing : IsFlowing l.net l.fn.demand l.residual l.search l.value l.initial.steps l.steps;
  entered : AreEntered l.net.links (length l.net.nodes) l.residual.states l.entered.items;
}

-- there are no more than links
abbrev pub decreases-loop-value : goal.decreases-loop-value
decreases-loop-value g l = length l.net.links - l.value
