-- A row whose product with the vector is zero stays as it is.
use Rattle.std.specs.Prelude.{◌≡◌, List, [], slice_set}
use Rattle.std.proofs.Common.{ap, sym, ◌∙◌}
use Rattle.std.proofs.lemmas.Bool.{not-false}
use Rattle.std.proofs.lemmas.List.{set-get_or}
use Rattle.field_vectors.proofs.DotOfLaws.{plus_multiple-nought}
use Rattle.field_vectors.proofs.GridLaws.{length-row_of, row_of-elements}
use Rattle.field_vectors.specs.Elements.{dot_of, plus_multiple}
use Rattle.field_vectors.specs.Grid.{Grid, row_of}
use Rattle.sink_basis.proofs.renewal.clear_row.Goals as goal

pub returns-else-ne-clause-cleared : goal.returns-else-ne-clause-cleared
returns-else-ne-clause-cleared g c =
    let F = g.F.Field in
    let field = g.met.F.Field.field in
    let old = c.args.inverses.now in
    let row = row_of old c.args.k in
    let own = row_of old c.args.path in
    let matrix = c.row.ensures.kept in
    let is_zero : c.dot-product.result ≡ F.zero = (g.met.F.Field.equal c.dot-product.result c.zero.result).0 (not-false _ (sym c.ne.ensures ∙ c.if-ne.false)) ∙ c.zero.ensures.value in
    let product : dot_of F.zero F.add F.mul c.args.vector.now row ≡ F.zero = ap (dot_of F.zero F.add F.mul c.args.vector.now) (sym c.row.ensures.value) ∙ sym c.dot-product.ensures.value ∙ is_zero in
    let stays : plus_multiple F.add F.mul row F.zero own ≡ row =
    plus_multiple-nought field row own (row_of-elements old c.args.k matrix c.requires.row) (row_of-elements old c.args.path matrix c.requires.path)
    (length-row_of old c.args.k matrix c.requires.row ∙ sym (length-row_of old c.args.path matrix c.requires.path)) in
    let same_row = ap (λ (product : g.row.F.Denot). plus_multiple F.add F.mul row product own) product ∙ stays in
    let grid = λ (rows : List (List g.row.F.Denot)). let m : Grid g.row.F.Denot = record { columns = old.columns; rows = rows } in m in
    ap grid (sym (ap (slice_set old.rows c.args.k) same_row ∙ set-get_or old.rows c.args.k []))
