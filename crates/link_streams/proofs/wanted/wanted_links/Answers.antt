use Rattle.std.proofs.Common.{◌≡◌, ◌<◌, ℕ, Global, List, Vec, arith, ap, get_or, length, sym, ◌∙◌}
use Rattle.std.specs.Prelude.{filter}
use Rattle.std.proofs.lemmas.List.{take_all}
use Rattle.std.proofs.lemmas.Option.{same_Some, slice_get_within}
use Rattle.node_program.proofs.DecodingLaws.{decoder_of_demand}
use Rattle.node_program.specs.CodeValue.{is_live_in}
use Rattle.node_program.specs.declared.code.Code.{Code}
use Rattle.sink_decoder.proofs.OpeningLaws.{links_within}
use Rattle.link_streams.proofs.WantedLaws.{wanted_all, wanted_elsewhere, wanted_here}
use Rattle.link_streams.proofs.wanted.wanted_links.Goals as goal
use Rattle.link_streams.proofs.wanted.wanted_links.Goals.{then-at+in_ok-push, else-at}

pub at-decoder-requires : goal.at-decoder-requires
at-decoder-requires c =
    let code = c.code-code.result.now in
    let found = decoder_of_demand code.code c.number_of.result c.number_of.ensures.within in
    slice_get_within code.decoders c.number_of.result found.0 found.1

-- the next link is one of the network's
below : (links items : List ℕ) (i count : ℕ) → items ≡ links → i < length items → ((k d : ℕ) → k < length links → get_or links k d < count) → get_or items i 0 < count
below links items i count same within all =
    let here = all i 0 (omega (arith, within, ap length same)) in
    omega (arith, here, ap (λ links. get_or links i 0) same)

pub at-requires : goal.at-requires
at-requires c =
    let code = c.code-code.result.now in
    let decoder = c.at-decoder.result.now in
    let all = links_within code c.number_of.result decoder c.number_of.ensures.within c.at-decoder.ensures in
    let link = below decoder.links c.as_slice-link-items.result.now c.loop-link.link-index (length code.net.links) c.as_slice-link-items.ensures c.loop-link-test.true all in
    omega (arith, link, c.in_ok-live.ensures.count)

pub loop-link-preserved : goal.loop-link-preserved
loop-link-preserved c =
    let code = c.code-code.result.now in
    let decoder = c.at-decoder.result.now in
    let links = c.as_slice-link-items.result.now in
    let i = c.loop-link.link-index in
    let link = get_or links i 0 in
    let front = c.loop-link.links.items in
    let test = c.at.result.now in
    let pattern = c.args.demand.pattern in
    let all = links_within code c.number_of.result decoder c.number_of.ensures.within c.at-decoder.ensures in
    let inside = below decoder.links links i (length code.net.links) c.as_slice-link-items.ensures c.loop-link-test.true all in
    let is : test ≡ is_live_in c.args.code.now pattern link =
    same_Some _ _ (sym c.at.ensures ∙ c.in_ok-live.ensures.entries link inside) ∙ ap (λ (code : Code). is_live_in code pattern link) c.code-code.ensures.value in
    let live = is_live_in c.args.code.now pattern in
    elim c.if-at.branch [
      | then-at+in_ok-push w ↦
          ap (λ (vec : Vec ℕ Global). vec.items) w.links-is ∙ w.in_ok-push.ensures.items ∙ wanted_here live links i front c.loop-link-test.true c.loop-link.invariant (sym is ∙ w.if-at.true)
      | else-at w ↦
          ap (λ (vec : Vec ℕ Global). vec.items) w.links-is ∙ wanted_elsewhere live links i front c.loop-link-test.true c.loop-link.invariant (sym is ∙ w.if-at.false)
    ]

pub returns : goal.returns
returns c =
    let links = c.as_slice-link-items.result.now in
    let live = is_live_in c.args.code.now c.args.demand.pattern in
    c.loop-link.invariant ∙ ap (filter live) (take_all c.loop-link.link-index links c.loop-link-test.false ∙ c.as_slice-link-items.ensures)
    ∙ wanted_all c.code-code.result.now c.args.code.now c.args.demand c.number_of.result c.at-decoder.result.now c.code-code.ensures.value c.number_of.ensures.value c.requires.pattern c.at-decoder.ensures
