use Rattle.std.proofs.Common.{ap, ◌∙◌}
use Rattle.field_vectors.proofs.NumberLaws.{number-dot_of}
use Rattle.worked_rows.proofs.tests.fields.rows_on_numbers.dot_number.Goals as goal

pub returns : goal.returns
returns g c =
    let L = g.met.F.Field in
    c.number.ensures.value ∙ ap g.F.Field.number c.dot.ensures.value
    ∙ number-dot_of L.field L.numbering c.args.kind c.requires.of_kind c.args.a.now c.args.b.now c.requires.left c.requires.right
