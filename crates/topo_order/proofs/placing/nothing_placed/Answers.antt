use Rattle.std.proofs.Common.{◌≡◌, List, length, ℕ, false, subst, sym, replicate}
use Rattle.link_chains.specs.Chains.{AreFirstsAt}
use Rattle.link_chains.specs.declared.chains.LinkEnd.TheVariants.{Head}
use Rattle.topo_order.proofs.PlacingSteps.{firsts_watched, placing_none}
use Rattle.topo_order.proofs.placing.nothing_placed.Goals as goal

pub returns-clause-placing : goal.returns-clause-placing
returns-clause-placing c =
    let net = c.args.net.now in
    let Unset : ℕ → Type 0 = λ n. c.in_ok-placed.placed.items ≡ replicate n false in
    let unset = subst Unset c.len-2.ensures (c.in_ok-placed.ensures.items_if_clones_equal (λ y same. same)) in
    let Firsts : List ℕ → Type 0 = λ into. AreFirstsAt net Head into in
    let firsts = subst Firsts (sym c.in_ok-into.ensures.items) c.requires in
    placing_none net.links (length net.nodes) _ c.in_ok-order.ensures.items unset firsts.each_node
    (firsts_watched net.links (length net.nodes) c.in_ok-into.into.items c.in_ok-placed.placed.items unset firsts)
