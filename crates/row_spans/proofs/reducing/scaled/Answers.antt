use Rattle.std.proofs.Common.{◌≡◌, ap, length, sym, ◌∙◌}
use Rattle.linear_algebra.proofs.RowLaws.{length-scale_row, zero_row-add_rows}
use Rattle.linear_algebra.specs.Elements.{elements_of}
use Rattle.linear_algebra.specs.Rows.{add_rows, scale_row, zero_row}
use Rattle.field_rows.proofs.ElementLaws.{elements_of-zeros, length-elements_in}
use Rattle.field_rows.specs.Widths.{width_in}
use Rattle.row_spans.proofs.reducing.scaled.Goals as goal

pub returns : goal.returns
returns g c =
    let field = c.args.field in
    let row = elements_of field c.args.row.now in
    let multiple = scale_row field c.args.by row in
    let long : length multiple ≡ width_in field g.row.W = length-scale_row field c.args.by row ∙ length-elements_in field g.row.W c.args.row.now c.requires.even c.told-row in
    c.add_scaled.ensures.sum
    ∙ ap (λ xs. add_rows xs multiple) (elements_of-zeros field g.row.W c.requires.even ∙ ap zero_row (sym long))
    ∙ zero_row-add_rows multiple
