use Rattle.std.proofs.Common.{◌≡◌, ◌++◌, ◌∷◌, [], List, ℕ, true, false, length, sym, ◌∙◌, subst}
use Rattle.std.specs.Ordering.{nat_cmp}
use Rattle.std.proofs.lemmas.Bool.{false≢true}
use Rattle.std.specs.BTreeSet.{contains}
use Rattle.topo_order.specs.Order.{is_reached}
use Rattle.topo_order.proofs.OrderLaws.{next_link-ready}
use Rattle.topo_order.specs.Queue.{AreReady, HasLeaving}
use Rattle.topo_order.proofs.PlacingSteps.{reached_read, blocked_read}
use Rattle.topo_order.proofs.QueueSteps.{first_is_next, none_is_next, none_in_empty, ready_kept, ready_joined}
use Rattle.topo_order.proofs.queue.place_next.Goals as goal

pub returns-in_default-clause-stuck : goal.returns-in_default-clause-stuck
returns-in_default-clause-stuck c =
    let ready = c.args.ready.now in
    λ is. none_is_next c.args.net.now.links c.args.placing.now.order.items (contains nat_cmp ready) c.requires.ready
    (λ q. none_in_empty ready.keys q (λ some. false≢true (c.in_default.ensures.variant.1 some)))

pub place-requires-clause-next : goal.place-requires-clause-next
place-requires-clause-next c =
    first_is_next c.args.net.now.links c.args.placing.now.order.items (contains nat_cmp c.args.ready.now) c.in-Some.link c.requires.ready c.in-Some.ensures.member
    c.in-Some.ensures.least

pub returns-in_ok-add_leaving-clause-ready : goal.returns-in_ok-add_leaving-clause-ready
returns-in_ok-add_leaving-clause-ready c =
    let links = c.args.net.now.links in
    let nodes = length c.args.net.now.nodes in
    let old = c.args.placing.now in
    let placed = old.order.items in
    let link = c.in-Some.link in
    let next = first_is_next links placed (contains nat_cmp c.args.ready.now) link c.requires.ready c.in-Some.ensures.member c.in-Some.ensures.least in
    let ready = next_link-ready links placed link next in
    let Reached : List ℕ → ℕ → Type 0 = λ placed node. is_reached links placed node ≡ true in
    let Ready : List ℕ → Type 0 = λ placed. AreReady links placed (length links) (contains nat_cmp c.add_leaving.new.ready) in
    let Leaving : ℕ → Type 0 = λ node. HasLeaving links node (contains nat_cmp c.pop_first.new.self) (contains nat_cmp c.add_leaving.new.ready) in
    let reached : Reached c.place.new.placing.order.items c.head-node.result =
    reached_read links nodes c.place.new.placing c.in_ok-place.ensures.placing c.head-node.result c.index.result.now c.head-node.ensures.below c.index.ensures (c.if-index-count.true ∙ c.len-count.ensures) in
    λ is. subst Ready (sym c.in_ok-place.ensures.order) (ready_joined links placed link c.requires.placing.sound ready.0 ready.1 (contains nat_cmp c.args.ready.now)
    (contains nat_cmp c.pop_first.new.self) c.requires.ready c.in-Some.ensures.updates.0 (contains nat_cmp c.add_leaving.new.ready)
    (subst (λ node. Reached (placed ++ link ∷ []) node) c.head-node.ensures.value (subst (λ some. Reached some c.head-node.result) c.in_ok-place.ensures.order reached))
    (subst Leaving c.head-node.ensures.value c.in_ok-add_leaving.ensures))

pub returns-else-index-count-clause-ready : goal.returns-else-index-count-clause-ready
returns-else-index-count-clause-ready c =
    let links = c.args.net.now.links in
    let nodes = length c.args.net.now.nodes in
    let old = c.args.placing.now in
    let placed = old.order.items in
    let link = c.in-Some.link in
    let next = first_is_next links placed (contains nat_cmp c.args.ready.now) link c.requires.ready c.in-Some.ensures.member c.in-Some.ensures.least in
    let ready = next_link-ready links placed link next in
    let Blocked : List ℕ → ℕ → Type 0 = λ placed node. is_reached links placed node ≡ false in
    let Ready : List ℕ → Type 0 = λ placed. AreReady links placed (length links) (contains nat_cmp c.pop_first.new.self) in
    let blocked : Blocked c.place.new.placing.order.items c.head-node.result =
    blocked_read links nodes c.place.new.placing c.in_ok-place.ensures.placing c.head-node.result c.index.result.now c.head-node.ensures.below c.index.ensures
    (λ all. c.if-index-count.false (all ∙ sym c.len-count.ensures)) in
    λ is. subst Ready (sym c.in_ok-place.ensures.order) (ready_kept links placed link c.requires.placing.sound ready.0 ready.1 (contains nat_cmp c.args.ready.now)
    (contains nat_cmp c.pop_first.new.self) c.requires.ready c.in-Some.ensures.updates.0
    (subst (λ node. Blocked (placed ++ link ∷ []) node) c.head-node.ensures.value (subst (λ some. Blocked some c.head-node.result) c.in_ok-place.ensures.order blocked)))
