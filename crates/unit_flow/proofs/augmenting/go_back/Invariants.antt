use Rattle.std.proofs.Common.{◌≡◌, length}
use Rattle.net_model.specs.Flows.{flow_network}
use Rattle.unit_flow.proofs.BackSteps.{IsGoingBack, place_of}
use Rattle.unit_flow.specs.Residual.{AreEntered}
use Rattle.unit_flow.proofs.augmenting.go_back.Given as goal

-- the links up to this node were turned, and nodes that used links lead into are marked
abbrev pub invariant-loop-node : goal.invariant-loop-node
invariant-loop-node l =
    (l.residual.demand ≡ l.initial.residual.demand)
    × IsGoingBack (flow_network l.net l.initial.residual.demand) l.initial.residual.states l.search l.residual.states (place_of l.search l.node) l.node
    × AreEntered l.net.links (length l.net.nodes) l.residual.states l.entered

-- the node's place on the way
abbrev pub decreases-loop-node : goal.decreases-loop-node
decreases-loop-node l = place_of l.search l.node
