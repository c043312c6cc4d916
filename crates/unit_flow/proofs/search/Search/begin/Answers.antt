use Rattle.std.specs.Prelude.{◌≡◌, false, length, replicate}
use Rattle.std.specs.Vec.{with_items}
use Rattle.std.proofs.Common.{refl, ◌∙◌, ap, arith}
use Rattle.std.proofs.lemmas.List.{with_items_is}
use Rattle.net_model.specs.Flows.{flow_network}
use Rattle.unit_flow.proofs.ConservationLaws.{IsFlowNetwork-flow_network}
use Rattle.unit_flow.proofs.SearchSteps.{begun}
use Rattle.unit_flow.proofs.search.Search.begin.Goals as goal

pub returns : goal.returns
returns c =
    let net = c.args.net.now in
    let residual = c.args.residual.now in
    let old = c.args.self.now in
    let whole : length c.fill.new.self ≡ old.reached.len = omega (arith, c.fill.ensures.len, c.as_mut_slice.ensures.len) in
    let unset : c.fill.new.self ≡ replicate (length old.reached.items) false = c.fill.ensures.after (λ y same. same) ∙ ap (λ flags. replicate (length flags) false) c.as_mut_slice.ensures.value in
    let from_whole : length c.copy_from_slice.new.self ≡ old.from.len = omega (arith, c.copy_from_slice.ensures.len, c.as_mut_slice-2.ensures.len) in
    let into_whole : length c.copy_from_slice-2.new.self ≡ old.into.len = omega (arith, c.copy_from_slice-2.ensures.len, c.as_mut_slice-3.ensures.len) in
    let is = begun (flow_network net residual.demand) residual.states old _ (with_items old.reached c.fill.new.self).items c.args.wiring.now c.requires.places (IsFlowNetwork-flow_network net residual.demand c.requires.sink)
    c.requires.wiring refl refl refl (with_items_is old.reached c.fill.new.self whole ∙ unset) refl
    (with_items_is old.from c.copy_from_slice.new.self from_whole ∙ c.copy_from_slice.ensures.after ∙ c.as_slice.ensures.value)
    (with_items_is old.into c.copy_from_slice-2.new.self into_whole ∙ c.copy_from_slice-2.ensures.after ∙ c.as_slice-2.ensures.value) in
    record { searching = is.searching; sink = is.away; none = is.none }
