use Rattle.std.proofs.Common.{◌∙◌, ap, length, subst, sym, ℕ}
use Rattle.linear_algebra.specs.Rows.{AreElements}
use Rattle.two_sources.proofs.DecoderSteps.{IsDecoder-at}
use Rattle.two_sources.proofs.decoders.separated_decoders.Goals as goal

pub separated_entries-requires-clause-count : goal.separated_entries-requires-clause-count
separated_entries-requires-clause-count c =
    let shape =
    IsDecoder-at c.args.code.now c.as_slice-decoder-items.result.now c.as_slice-decoder-items.ensures
    c.loop-decoder.decoder-index c.decoder-item.result c.loop-decoder-test.true c.decoder-item.is in
    ap (length {A = ℕ}) c.as_slice-in-loop-decoder.ensures ∙ shape.entry_count

pub separated_entries-requires-clause-elements : goal.separated_entries-requires-clause-elements
separated_entries-requires-clause-elements c =
    let shape =
    IsDecoder-at c.args.code.now c.as_slice-decoder-items.result.now c.as_slice-decoder-items.ensures
    c.loop-decoder.decoder-index c.decoder-item.result c.loop-decoder-test.true c.decoder-item.is in
    subst (AreElements c.args.code.now.field) (sym c.as_slice-in-loop-decoder.ensures) shape.elements
