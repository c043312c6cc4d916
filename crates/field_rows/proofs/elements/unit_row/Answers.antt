use Rattle.std.proofs.Common.{ap, set, ◌∙◌}
use Rattle.field_rows.proofs.ElementLaws.{elements_of-zeros, zero_row-set}
use Rattle.field_rows.specs.Widths.{width_in}
use Rattle.field_rows.proofs.elements.unit_row.Goals as goal

pub returns : goal.returns
returns g c =
    c.put_element.ensures ∙ ap (λ row. set row c.args.place 1) (elements_of-zeros c.args.field g.row.W c.requires.even)
    ∙ zero_row-set c.args.field (width_in c.args.field g.row.W) c.args.place c.requires.inside
