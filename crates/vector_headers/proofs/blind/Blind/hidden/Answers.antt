use Rattle.std.proofs.Common.{◌≡◌, ◌∙◌, ◌*◌, List, ℕ, ap, sym, subst, length, take}
use Rattle.std.proofs.Math.Path.{ap₂}
use Rattle.std.proofs.Math.Nat.{mul_comm}
use Rattle.gf_tables.specs.declared.kind.Width.{Width}
use Rattle.gf_tables.specs.Product.{bytes_of_element, width_of}
use Rattle.gf_tables.specs.declared.kind.FieldKind.{FieldKind}
use Rattle.linear_algebra.proofs.ElementsLaws.{elements_of-take}
use Rattle.linear_algebra.specs.Elements.{elements_of, numbers, numbers_of_bytes}
use Rattle.row_spans.specs.Spans.{IsHidden, vectors}
use Rattle.vector_headers.proofs.AdmitLaws.{vectors_of-coded}
use Rattle.vector_headers.proofs.HeldLaws.{Shows-here}
use Rattle.vector_headers.proofs.TakenLaws.{width_of_field}
use Rattle.vector_headers.specs.Heads.{width_of_bytes}
use Rattle.vector_headers.specs.Rows.{Holding, rows_of_piece, vectors_of}
use Rattle.vector_headers.proofs.blind.Blind.hidden.Goals as goal

pub returns : goal.returns
returns g c =
    let inside = c.self.inside in
    let span = c.index.result.now in
    let piece = c.args.piece in
    let holding = c.args.self.now in
    let seen =
    Shows-here g.F.Field.BYTES inside.field inside.rate inside.spans.items holding piece span c.self.invariant c.self.view_is c.requires.piece c.index.ensures
    in
    let field = span.field in
    let rate = span.rate in
    let row = c.hidden-row.result in
    let wide : g.F.Field.BYTES ≡ bytes_of_element field = c.self.invariant.wide ∙ ap (λ (f : FieldKind). bytes_of_element f) (sym (seen.same_field ∙ ap (λ (held : Holding). held.field) (sym c.self.view_is))) in
    let many : length c.args.into.now * c.BYTES.result ≡ bytes_of_element field * rate =
    ap₂ (λ (n m : ℕ). n * m) (c.requires.room ∙ sym seen.same_rate) (c.BYTES.ensures ∙ wide) ∙ mul_comm rate (bytes_of_element field)
    in
    let width : width_of_bytes g.F.Field.BYTES ≡ width_of field = ap width_of_bytes wide ∙ width_of_field field in
    let read : numbers g.F.Field.number c.read_elements.new.vector ≡ take rate (elements_of field row) =
    c.read_elements.ensures ∙ ap₂ (λ (w : Width) (n : ℕ). numbers_of_bytes w (take n row)) width many ∙ elements_of-take field rate row
    in
    let kept : vectors rate span.rows ≡ vectors_of (rows_of_piece holding piece) =
    sym (vectors_of-coded field rate span.rows) ∙ ap vectors_of seen.shown
    in
    let First : FieldKind → ℕ → Type 0 = λ f r. IsHidden f r (vectors_of (rows_of_piece holding piece)) (numbers g.F.Field.number c.read_elements.new.vector) in
    subst (λ (r : ℕ). First holding.field r) seen.same_rate (subst (λ (f : FieldKind). First f rate) seen.same_field
    (subst (λ (v : List ℕ). IsHidden field rate (vectors_of (rows_of_piece holding piece)) v) (sym read)
    (subst (λ (vs : List (List ℕ)). IsHidden field rate vs (take rate (elements_of field row))) kept c.hidden-row.ensures.hidden)))
