use Rattle.std.proofs.Common.{ap, set, ◌∙◌}
use Rattle.std.proofs.lemmas.List.{map-set}
use Rattle.linear_algebra.specs.Elements.{elements_of}
use Rattle.row_spans.proofs.reducing.keep.Goals as goal

pub returns-clause-rows : goal.returns-clause-rows
returns-clause-rows g c =
    let field = c.args.field in
    let lead = c.args.lead.now in
    map-set (elements_of field) c.clear_rows.new.rows lead.column lead.row ∙ ap (λ rows. set rows lead.column (elements_of field lead.row)) c.clear_rows.ensures
