use Rattle.std.specs.Prelude.{◌+◌, ◌∷◌, [], List, length, slice_get}
use Rattle.std.proofs.Common.{ap, sym, ◌∙◌}
use Rattle.std.proofs.lemmas.List.{length-append}
use Rattle.node_program.specs.declared.Decoder.{Decoder}
use Rattle.lif_compiler.specs.Decoders.{IsReadOffBasis}
use Rattle.lif_compiler.proofs.ReadOffLaws.{pairs_more}
use Rattle.lif_compiler.proofs.decoding.decoders_of.Goals as goal

pub loop-basis-preserved : goal.loop-basis-preserved
loop-basis-preserved g c =
    let bases = c.args.bases.now in
    let index = c.loop-basis.basis-index in
    let old = c.loop-basis.decoders.items in
    let more = c.in_ok-push.ensures.items in
    record {
      count = ap length more ∙ length-append old (c.in_ok-decoder_of.field-0 ∷ []) ∙ ap (λ n. n + 1) c.loop-basis.invariant.count;
      each = λ k basis decoder first second.
          pairs_more IsReadOffBasis bases old index c.basis-item.result c.in_ok-decoder_of.field-0 c.loop-basis.invariant.count c.loop-basis-test.true c.basis-item.is c.in_ok-decoder_of.ensures
          c.loop-basis.invariant.each k basis decoder first (ap (λ (l : List Decoder). slice_get l k) (sym more) ∙ second);
    }
