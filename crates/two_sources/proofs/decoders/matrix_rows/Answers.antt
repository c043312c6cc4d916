use Rattle.std.proofs.Common.{◌∙◌, ap, arith}
use Rattle.std.proofs.lemmas.List.{length-set}
use Rattle.link_rows.specs.Vectors.{widened}
use Rattle.linear_algebra.specs.Matrices.{rows_of}
use Rattle.two_sources.proofs.DecoderSteps.{row-of_entries, rows-more}
use Rattle.two_sources.proofs.decoders.matrix_rows.Goals as goal

pub loop-row-preserved : goal.loop-row-preserved
loop-row-preserved c =
    let field = c.args.field in
    let rate = c.args.rate in
    let entries = c.args.entries.now in
    let rows = c.loop-row.rows in
    let k = c.loop-row.row in
    let row = c.row_of.result in (
      length-set rows k row ∙ c.loop-row.invariant.0,
      rows-more field rows (rows_of rate rate entries) k row (omega (arith, c.loop-row.invariant.0)) c.loop-row.invariant.1
          (c.row_of.ensures ∙ ap (widened field) (row-of_entries rate k entries c.loop-row-test.true)),
    )
