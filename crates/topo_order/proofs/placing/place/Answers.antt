use Rattle.std.proofs.Common.{◌≡◌, ◌<◌, length, ℕ, List, Bool, true, false, refl, sym, ◌∙◌, ap, arith, subst, slice_index_or}
use Rattle.std.proofs.lemmas.List.{get_or-set_same}
use Rattle.topo_order.proofs.OrderLaws.{next_link-ready}
use Rattle.topo_order.specs.Placing.{IsNextInto}
use Rattle.topo_order.proofs.PlacingSteps.{placing_kept, placing_moved}
use Rattle.topo_order.proofs.placing.place.Goals as goal

pub index_mut-requires : goal.index_mut-requires
index_mut-requires c =
    let placing = c.args.placing.now in
    omega (arith, (next_link-ready c.args.net.now.links placing.order.items c.args.link c.requires.next).0, c.requires.placing.flags, placing.placed.ok.0)

pub head-node-requires : goal.head-node-requires
head-node-requires c = (next_link-ready c.args.net.now.links c.args.placing.now.order.items c.args.link c.requires.next).0

pub next_unplaced-next-requires-clause-within : goal.next_unplaced-next-requires-clause-within
next_unplaced-next-requires-clause-within c = (next_link-ready c.args.net.now.links c.args.placing.now.order.items c.args.link c.requires.next).0

pub next_unplaced-next-requires-clause-placed : goal.next_unplaced-next-requires-clause-placed
next_unplaced-next-requires-clause-placed c =
    let flags = c.args.placing.now.placed.items in
    let inside : c.args.link < length flags = omega (arith, (next_link-ready c.args.net.now.links c.args.placing.now.order.items c.args.link c.requires.next).0, c.requires.placing.flags) in
    ap (λ some. slice_index_or some c.args.link false) c.as_slice.ensures.value ∙ get_or-set_same flags c.args.link true false inside

pub returns-then-index-link-clause-placing : goal.returns-then-index-link-clause-placing
returns-then-index-link-clause-placing c =
    let net = c.args.net.now in
    let Next : List Bool → ℕ → Type 0 = λ flags node. IsNextInto net.links flags node c.args.link c.next_unplaced-next.result in
    let found : Next c.as_slice.result.now c.head-node.result = subst (Next c.as_slice.result.now) (sym c.head-node.ensures.value) c.next_unplaced-next.ensures in
    placing_moved net.links (length net.nodes) c.args.placing.now _ c.args.link c.requires.placing c.requires.next c.requires.room c.in_ok-push.ensures.items refl
    c.index.result.now c.head-node.result c.next_unplaced-next.result c.head-node.ensures.value c.head-node.ensures.below c.index.ensures c.if-index-link.true
    (subst (λ flags. Next flags c.head-node.result) c.as_slice.ensures.value found) refl

pub returns-else-index-link-clause-placing : goal.returns-else-index-link-clause-placing
returns-else-index-link-clause-placing c =
    let net = c.args.net.now in
    let Read : ℕ → Type 0 = λ node. c.index.result.now ≡ slice_index_or c.args.placing.now.into.items node c.index.result.now in
    let Below : ℕ → Type 0 = λ node. node < length net.nodes in
    placing_kept net.links (length net.nodes) c.args.placing.now _ c.args.link c.requires.placing c.requires.next c.requires.room c.in_ok-push.ensures.items refl
    c.index.result.now refl (subst Below c.head-node.ensures.value c.head-node.ensures.below) (subst Read c.head-node.ensures.value c.index.ensures) c.if-index-link.false
