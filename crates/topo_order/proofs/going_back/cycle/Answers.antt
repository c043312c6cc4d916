use Rattle.std.proofs.Common.{◌≡◌, ◌-◌, ◌≤◌, length, take, drop, sym, ◌∙◌, ap, arith, subst}
use Rattle.std.proofs.lemmas.List.{length-drop, take_all}
use Rattle.topo_order.specs.GoingBack.{IsTurn}
use Rattle.topo_order.specs.Order.{IsShownCycle}
use Rattle.topo_order.proofs.ShownCycle.{shown_cycle}
use Rattle.topo_order.proofs.going_back.cycle.Goals as goal

pub returns : goal.returns
returns c =
    let links = c.args.net.now.links in
    let path = c.in_ok-path.path.items in
    let from = c.in_ok-path.from in
    let lent = c.deref.result.now in
    let turn = take (length lent - from) (drop from lent) in
    let short : length (drop from lent) ≤ length lent - from = omega (arith, length-drop from lent) in
    let same : turn ≡ drop from path = take_all (length lent - from) (drop from lent) short ∙ ap (drop from) c.deref.ensures.value in
    let found : IsTurn links turn = subst (IsTurn links) (sym same) c.in_ok-path.ensures.turn in
    subst (IsShownCycle links) (sym c.of.ensures)
    (shown_cycle links turn c.least_place.result c.in_ok-cycle.cycle.items found c.least_place.ensures.within c.least_place.ensures.least c.in_ok-cycle.ensures)
