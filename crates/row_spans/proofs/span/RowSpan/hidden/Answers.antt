use Rattle.std.proofs.Common.{◌≡◌, ◌<◌, ◌-◌, ◌++◌, ℕ, List, Bool, ap, arith, false, get_or, length, set, subst, sym, take, true, ◌∙◌}
use Rattle.std.proofs.lemmas.List.{length-set, take_at}
use Rattle.linear_algebra.proofs.MatrixLaws.{length-column}
use Rattle.linear_algebra.specs.Elements.{elements_of}
use Rattle.linear_algebra.specs.Matrices.{column}
use Rattle.linear_algebra.specs.Rows.{zero_row}
use Rattle.row_spans.proofs.HiddenLaws.{IsHidden-column}
use Rattle.row_spans.proofs.SpanSteps.{some_unmarked}
use Rattle.row_spans.specs.Reduced.{kept}
use Rattle.row_spans.specs.Spans.{IsHidden, Span, vectors}
use Rattle.field_rows.specs.Widths.{rows_in, width_in}
use Rattle.row_spans.proofs.span.RowSpan.hidden.Goals as goal

pub unmarked-column-requires-clause-some : goal.unmarked-column-requires-clause-some
unmarked-column-requires-clause-some g c =
    let s = c.self.inside in
    let Few : Span → Type 0 = λ span. length span.rows < span.rate in
    let few = subst Few (sym c.self.view_is) c.requires in
    let Not : List Bool → Type 0 = λ marks. ¬ ((p : ℕ) → p < length marks → get_or marks p false ≡ true) in
    subst Not (sym c.as_slice.ensures.value) (some_unmarked s.field g.row.W s.rate s.rank s.marks.items (rows_in s.field s.rows.items) c.self.invariant few)

pub returns-clause-hidden : goal.returns-clause-hidden
returns-clause-hidden g c =
    let s = c.self.inside in
    let h = c.self.invariant.reduced in
    let rows = rows_in s.field s.rows.items in
    let place = c.unmarked-column.result in
    let found = set (column place rows) place 1 in
    let Inside : List Bool → Type 0 = λ marks. place < length marks in
    let inside = subst Inside c.as_slice.ensures.value c.unmarked-column.ensures.within in
    let within : place < s.rate = omega (arith, inside, h.columns) in
    let free = ap (λ marks. get_or marks place false) (sym c.as_slice.ensures.value) ∙ c.unmarked-column.ensures.unmarked in
    let long : length found ≡ s.rate = length-set (column place rows) place 1 ∙ length-column place rows ∙ h.count in
    let rest = width_in s.field 64 - length c.as_slice-2.result.now in
    let value : take s.rate (elements_of s.field c.entries_with_one.result) ≡ found =
    ap (take s.rate) (c.entries_with_one.ensures ∙ ap (λ items. set (column place (rows_in s.field items)) place 1 ++ zero_row rest) c.as_slice-2.ensures.value)
    ∙ take_at found (zero_row rest) s.rate long in
    let Hidden : List ℕ → Type 0 = IsHidden s.field s.rate (vectors s.rate (kept s.marks.items rows)) in
    let P : Span → Type 0 = λ span. IsHidden span.field span.rate (vectors span.rate span.rows) (take span.rate (elements_of span.field c.entries_with_one.result)) in
    subst P c.self.view_is (subst Hidden (sym value) (IsHidden-column s.field (width_in s.field g.row.W) s.rate s.marks.items rows h place within free))
