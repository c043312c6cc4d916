use Rattle.std.proofs.Common.{◌≡◌, length}
use Rattle.net_model.specs.Flows.{flow_network}
use Rattle.unit_flow.proofs.BeginSteps.{IsUsedFrom}
use Rattle.unit_flow.specs.Residual.{AreEntered}
use Rattle.unit_flow.proofs.beginning.use_path.Given as goal

-- the links from this place on are used, and nodes that used links lead into are marked
abbrev pub invariant-loop-place : goal.invariant-loop-place
invariant-loop-place l = record {
  demand : l.residual.demand ≡ l.initial.residual.demand;
  used : IsUsedFrom (flow_network l.net l.initial.residual.demand) l.initial.residual.states l.residual.states l.path l.place;
  entered : AreEntered l.net.links (length l.net.nodes) l.residual.states l.entered;
}

abbrev pub decreases-loop-place : goal.decreases-loop-place
decreases-loop-place l = l.place
