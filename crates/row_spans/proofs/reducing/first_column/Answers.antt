use Rattle.std.proofs.Common.{◌≡◌, ◌<◌, arith, length, sym, take, ◌∙◌}
use Rattle.std.proofs.lemmas.List.{ext_get_or, get_or-take, length-replicate, length-take-le}
use Rattle.field_rows.proofs.BytesLaws.{length-elements_of, whole_bytes}
use Rattle.linear_algebra.proofs.RowLaws.{slice_index-zero_row}
use Rattle.linear_algebra.specs.Elements.{elements_of}
use Rattle.linear_algebra.specs.Rows.{zero_row}
use Rattle.field_rows.specs.Widths.{width_in}
use Rattle.row_spans.proofs.reducing.first_column.Goals as goal

pub returns-clause-none : goal.returns-clause-none
returns-clause-none c =
    let field = c.args.field in
    let rate = c.args.rate in
    let row = elements_of field c.args.row.now in
    let bytes = length c.args.row.now in
    let long : length row ≡ width_in field bytes = length-elements_of field (width_in field bytes) c.args.row.now (whole_bytes field bytes c.requires.whole) in
    let short : length (take rate row) ≡ rate = length-take-le rate row (omega (arith, c.requires.rate, long)) in
    ext_get_or 0 (take rate row) (zero_row rate) (short ∙ sym (length-replicate rate 0)) (λ j inside.
    let within : j < rate = omega (arith, inside, short) in
    get_or-take rate row j 0 within ∙ c.loop-column.invariant j (omega (arith, within, c.loop-column-test.false)) ∙ sym (slice_index-zero_row rate j))
