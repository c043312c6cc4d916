use Rattle.std.proofs.Common.{◌∙◌, List, ℕ, sym, subst, refl, arith}
use Rattle.net_model.specs.Flows.{flow_network}
use Rattle.unit_flow.proofs.ConservationLaws.{IsFlowNetwork-flow_network, used_leaving_is}
use Rattle.unit_flow.proofs.TakingSteps.{IsOnTheWay, taking_fewer, taking_next, taking_some, way_begins, way_ends}
use Rattle.unit_flow.proofs.decomposing.Undecomposed.take_path.Goals as goal

pub loop-node-init : goal.loop-node-init
loop-node-init c =
    let net = c.args.net.now in
    let residual = c.args.self.now.residual in
    let Way : List ℕ → Type 0 = λ path. IsOnTheWay (flow_network net residual.demand) residual.states residual.states path net.source in
    record {
      demand = refl;
      way = subst Way (sym c.new-path.ensures.items) (way_begins (flow_network net residual.demand) residual.states (IsFlowNetwork-flow_network net residual.demand c.requires.sink) c.requires.unit);
      cursors = c.requires.cursors;
      inside = net.network.source_node;
    }

pub next_used-link-requires-clause-used_link : goal.next_used-link-requires-clause-used_link
next_used-link-requires-clause-used_link c =
    taking_some c.args.net.now c.args.self.now c.loop-node.self c.loop-node.path.items c.loop-node.node c.loop-node.invariant (λ same. c.loop-node-test.true (same ∙ sym c.sink-sink.ensures))

pub set_state-requires : goal.set_state-requires
set_state-requires c =
    omega (arith, c.loop-node.invariant.way.conserved.are_states.each_link, (used_leaving_is c.args.net.now.links c.loop-node.self.residual.states c.loop-node.node c.next_used-link.result c.next_used-link.ensures).0)

pub head-node-requires : goal.head-node-requires
head-node-requires c = (used_leaving_is c.args.net.now.links c.loop-node.self.residual.states c.loop-node.node c.next_used-link.result c.next_used-link.ensures).0

pub loop-node-smaller : goal.loop-node-smaller
loop-node-smaller c =
    taking_fewer c.args.net.now c.args.self.now c.loop-node.self c.set_state.new.self.states c.loop-node.path.items c.loop-node.node c.next_used-link.result c.loop-node.invariant c.next_used-link.ensures
    c.set_state.ensures.states

pub loop-node-preserved : goal.loop-node-preserved
loop-node-preserved c =
    taking_next c.args.net.now c.args.self.now c.loop-node.self _ c.loop-node.path.items c.push.new.self.items c.loop-node.node c.next_used-link.result c.head-node.result c.loop-node.invariant
    (λ same. c.loop-node-test.true (same ∙ sym c.sink-sink.ensures)) c.next_used-link.ensures c.set_state.ensures.demand c.set_state.ensures.states refl c.in_ok-push.ensures.items c.head-node.ensures.value
    c.head-node.ensures.below

pub returns-clause-path : goal.returns-clause-path
returns-clause-path c =
    let residual = c.args.self.now.residual in
    c.of.ensures ∙ (way_ends (flow_network c.args.net.now residual.demand) residual.states c.loop-node.self.residual.states c.loop-node.path.items c.loop-node.node c.loop-node.invariant.way (c.loop-node-test.false ∙ c.sink-sink.ensures)).0

pub returns-clause-states : goal.returns-clause-states
returns-clause-states c =
    let residual = c.args.self.now.residual in
    (way_ends (flow_network c.args.net.now residual.demand) residual.states c.loop-node.self.residual.states c.loop-node.path.items c.loop-node.node c.loop-node.invariant.way (c.loop-node-test.false ∙ c.sink-sink.ensures)).1
