use Rattle.std.proofs.Common.{List, take, [], sym, subst, ap, ◌∙◌, arith}
use Rattle.std.proofs.lemmas.List.{length-take, take_more}
use Rattle.item_list.proofs.Tests.{passes_at}
use Rattle.node_program.specs.declared.Decoder.{Decoder}
use Rattle.code_items.specs.Shared.{AreSames}
use Rattle.code_items.specs.Sharing.{decoder_of, no_decoder, sames_after}
use Rattle.code_items.specs.Written.{has_elements, has_size}
use Rattle.code_items.proofs.SharedItems.{sames_after-push}
use Rattle.code_items.proofs.TextLaws.{text_cut, text_first-within}
use Rattle.code_items.proofs.sharing.sames_of.Goals as goal

pub split_at-requires : goal.split_at-requires
split_at-requires c =
    text_first-within c.args.field c.args.rate c.args.decoders.now c.loop-demand.demand c.text_room-size.result c.loop-demand.rest.now c.loop-demand-test.true c.requires.sizes c.loop-demand.invariant.rest c.loop-demand.invariant.small c.text_room-size.ensures

pub loop-demand-preserved : goal.loop-demand-preserved
loop-demand-preserved c =
    let decoders = c.args.decoders.now in
    let demand = c.loop-demand.demand in
    let held = c.loop-demand.invariant in
    let within = c.loop-demand-test.true in
    let cut = text_cut c.args.field c.args.rate decoders demand c.text_room-size.result c.loop-demand.rest.now within c.requires.sizes held.rest held.small c.text_room-size.ensures
    c.split_at.result.0.now c.split_at.result.1.now c.split_at.ensures.by_index.0 c.split_at.ensures.front_len in
    let decoder = decoder_of decoders demand in
    let more = take_more decoders demand no_decoder within in
    let told = c.in_ok-same_of_text.ensures c.args.field c.args.rate (take demand decoders) decoder (passes_at (has_size c.args.rate) decoders demand no_decoder c.requires.sizes within)
    (passes_at (has_elements c.args.field) decoders demand no_decoder c.requires.elements within) cut.0 (omega (arith, length-take demand decoders)) held.are in
    record {
      rest = cut.1;
      small = omega (arith, c.split_at.ensures.back_len);
      sames = c.in_ok-push.ensures.items ∙ rw (held.sames, told.0) (sym (ap (sames_after []) more ∙ sames_after-push [] (take demand decoders) decoder));
      are = subst (λ (known : List Decoder). AreSames c.args.field c.args.rate c.same_of_text.new.texts c.same_of_text.new.numbers.items known) (sym more) told.1;
    }
