use Rattle.std.proofs.Common.{◌≡◌, [], List, ℕ, length, sym, subst, arith, slice_index, slice_set, take, replicate}
use Rattle.std.proofs.lemmas.List.{take_more}
use Rattle.unit_flow.specs.declared.residual.LinkState.{LinkState}
use Rattle.unit_flow.specs.declared.residual.LinkState.TheVariants.{Free, Failed}
use Rattle.net_model.proofs.FailedLaws.{failed_within}
use Rattle.unit_flow.proofs.StartSteps.{AreMarked, marked_none, marked_more}
use Rattle.unit_flow.proofs.residual.Residual.start.Goals as goal

pub index_mut-requires : goal.index_mut-requires
index_mut-requires c =
    let net = c.args.net.now in
    let within = failed_within net.patterns (length net.links) c.args.demand.pattern c.at.result.now c.as_slice-link-items.result.now c.loop-link.link-index net.network.pattern_links c.at.ensures
    c.as_slice-link-items.ensures c.loop-link-test.true in
    omega (arith, within, c.loop-link.invariant.each_link, c.loop-link.states.ok.0)

pub loop-link-init : goal.loop-link-init
loop-link-init c =
    let Marked : List LinkState → Type 0 = λ states. AreMarked (length c.args.net.now.links) [] states in
    let Unmarked : ℕ → Type 0 = λ n. c.in_ok-states.states.items ≡ replicate n Free in
    subst Marked (sym (subst Unmarked c.len.ensures (c.in_ok-states.ensures.items_if_clones_equal (λ y same. same)))) (marked_none (length c.args.net.now.links))

pub loop-link-preserved : goal.loop-link-preserved
loop-link-preserved c =
    let net = c.args.net.now in
    let failed = c.as_slice-link-items.result.now in
    let place = c.loop-link.link-index in
    let within = failed_within net.patterns (length net.links) c.args.demand.pattern c.at.result.now failed place net.network.pattern_links c.at.ensures c.as_slice-link-items.ensures c.loop-link-test.true in
    let Marked : List ℕ → Type 0 = λ marked. AreMarked (length net.links) marked (slice_set c.loop-link.states.items (slice_index failed place) Failed) in
    subst Marked (sym (take_more failed place 0 c.loop-link-test.true))
    (marked_more (length net.links) (take place failed) c.loop-link.states.items (slice_index failed place) c.loop-link.invariant within)
