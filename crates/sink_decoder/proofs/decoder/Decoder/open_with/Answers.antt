use Rattle.std.proofs.Common.{◌≡◌, ◌<◌, ℕ, List, ap, subst, sym, ◌∙◌, length}
use Rattle.std.specs.List.{All}
use Rattle.std.proofs.lemmas.Option.{slice_get_within}
use Rattle.node_program.proofs.DecodingLaws.{decoder_of_demand}
use Rattle.node_program.specs.declared.code.Code.{Code}
use Rattle.sink_decoder.proofs.OpeningLaws.{IsReceiver-opened, links_within, sink_plan-opened}
use Rattle.sink_decoder.proofs.decoder.Decoder.open_with.Goals as goal

pub at-decoder-requires : goal.at-decoder-requires
at-decoder-requires g c =
    let code = c.code-code.result.now in
    let found = decoder_of_demand code.code c.number_of.result c.number_of.ensures.within in
    slice_get_within code.decoders c.number_of.result found.0 found.1

pub live_among-requires : goal.live_among-requires
live_among-requires g c =
    let code = c.code-code.result.now in
    let decoder = c.at-decoder.result.now in
    let count : length code.net.links ≡ length c.args.live.now = ap (λ (code : Code). length code.net.links) c.code-code.ensures.value ∙ sym c.requires.live_count in
    let Within : ℕ → List ℕ → Type 0 = λ n links. All (λ link. link < n) links in
    subst (Within (length c.args.live.now)) (sym c.as_slice-links.ensures)
    (subst (λ (n : ℕ). Within n decoder.links) count (links_within code c.number_of.result decoder c.number_of.ensures.within c.at-decoder.ensures))

pub invariant_of-result : goal.invariant_of-result
invariant_of-result g c =
    IsReceiver-opened c.code-code.result.now c.number_of.result c.at-decoder.result.now c.args.live.now c.in_ok-live_among.field-0.items
    c.in_ok-to_vec.field-0.items c.as_slice-links.result.now c.in_ok-to_vec-2.field-0.items
    c.number_of.ensures.within c.at-decoder.ensures c.as_slice-links.ensures
    (c.in_ok-to_vec.ensures.items_if_clones_equal (λ x y is. is))
    (c.in_ok-to_vec-2.ensures.items_if_clones_equal (λ x y is. is) ∙ c.as_slice.ensures)
    c.in_ok-live_among.ensures c.in_ok-none_held.field-0.items c.in_ok-none_held.ensures.count c.in_ok-none_held.ensures.rows

pub returns-clause-plan : goal.returns-clause-plan
returns-clause-plan g c =
    sink_plan-opened c.code-code.result.now c.number_of.result c.at-decoder.result.now c.args.live.now c.in_ok-live_among.field-0.items
    c.in_ok-to_vec.field-0.items c.as_slice-links.result.now c.in_ok-to_vec-2.field-0.items
    c.number_of.ensures.within c.at-decoder.ensures c.as_slice-links.ensures
    (c.in_ok-to_vec.ensures.items_if_clones_equal (λ x y is. is))
    (c.in_ok-to_vec-2.ensures.items_if_clones_equal (λ x y is. is) ∙ c.as_slice.ensures)
    c.in_ok-live_among.ensures c.args.code.now c.args.demand c.code-code.ensures.value c.number_of.ensures.value c.requires.pattern c.requires.live
