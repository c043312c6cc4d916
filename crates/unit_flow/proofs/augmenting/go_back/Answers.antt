use Rattle.std.proofs.Common.{◌<◌, ℕ, length, sym, ◌∙◌, subst, arith, refl}
use Rattle.std.proofs.lemmas.List.{get_or_read}
use Rattle.net_model.specs.Flows.{flow_network}
use Rattle.unit_flow.specs.Conservation.{IsConservedFrom}
use Rattle.unit_flow.proofs.ConservationLaws.{IsConserved-from_source, IsFlowNetwork-flow_network}
use Rattle.unit_flow.proofs.BackSteps.{IsGoingBack, back_none, gone_back, link_within, place_of}
use Rattle.unit_flow.proofs.augmenting.go_back.Goals as goal

pub loop-node-init : goal.loop-node-init
loop-node-init c =
    let net = c.args.net.now in
    let residual = c.args.residual.now in
    let network = flow_network net residual.demand in
    let Back : ℕ → Type 0 = λ node. IsGoingBack network residual.states c.args.search.now residual.states (place_of c.args.search.now node) node in
    (refl, subst Back (sym c.sink-node.ensures) (back_none network residual.states c.args.search.now c.requires.way c.requires.states c.requires.at_sink), c.requires.entered)

pub turn-node-requires-clause-link : goal.turn-node-requires-clause-link
turn-node-requires-clause-link c =
    let residual = c.args.residual.now in
    let search = c.args.search.now in
    let node = c.loop-node.node in
    let Within : ℕ → Type 0 = λ link. link < length c.args.net.now.links in
    let back = c.loop-node.invariant.1 in
    let inside : node < length search.came.items = rw (← back.at) (omega (arith, c.requires.way.nodes (place_of search node) back.inside, c.requires.way.places.came)) in
    subst Within (sym (get_or_read search.came.items node c.index-link.result.now inside c.index-link.ensures 0))
    (link_within (flow_network c.args.net.now residual.demand) residual.states search c.loop-node.residual.states (place_of search node) node c.requires.way back c.loop-node-test.true)

-- from the next node on
gone : (c : goal.After-slice_known-in-loop-node-1) → IsGoingBack (flow_network c.args.net.now c.args.residual.now.demand) c.args.residual.now.states c.args.search.now c.turn-node.new.residual.states
    (place_of c.args.search.now c.turn-node.result) c.turn-node.result
    × (place_of c.args.search.now c.turn-node.result < place_of c.args.search.now c.loop-node.node)
gone c =
    let residual = c.args.residual.now in
    let search = c.args.search.now in
    let node = c.loop-node.node in
    let back = c.loop-node.invariant.1 in
    let inside : node < length search.came.items = rw (← back.at) (omega (arith, c.requires.way.nodes (place_of search node) back.inside, c.requires.way.places.came)) in
    gone_back (flow_network c.args.net.now residual.demand) residual.states search c.loop-node.residual.states (place_of search node) node c.requires.way back c.loop-node-test.true
    c.index-link.result.now (sym (get_or_read search.came.items node c.index-link.result.now inside c.index-link.ensures 0)) c.turn-node.new.residual.states c.turn-node.result c.turn-node.ensures.states c.turn-node.ensures.node

pub loop-node-smaller : goal.loop-node-smaller
loop-node-smaller c = (gone c).1

pub loop-node-preserved : goal.loop-node-preserved
loop-node-preserved c = (c.turn-node.ensures.demand ∙ c.loop-node.invariant.0, (gone c).0, c.turn-node.ensures.entered)

pub returns-clause-more : goal.returns-clause-more
returns-clause-more c =
    let residual = c.args.residual.now in
    let network = flow_network c.args.net.now residual.demand in
    λ value conserved.
    let From : ℕ → Type 0 = λ node. IsConservedFrom network c.loop-node.residual.states value node in
    IsConserved-from_source network c.loop-node.residual.states value (IsFlowNetwork-flow_network c.args.net.now residual.demand c.requires.sink)
    (subst From c.loop-node-test.false (c.loop-node.invariant.1.conserved value conserved))
