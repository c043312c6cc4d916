use Rattle.std.proofs.Common.{◌≡◌, ◌∙◌, ap, arith, false, replicate, vec_len}
use Rattle.std.proofs.Math.Path.{ap₂}
use Rattle.std.proofs.lemmas.List.{length-map}
use Rattle.std.proofs.lemmas.List.Elements.{same_from_all_zip}
use Rattle.linear_algebra.specs.Elements.{elements_of}
use Rattle.linear_algebra.specs.Rows.{zero_row}
use Rattle.field_rows.proofs.ElementLaws.{rows_in-zeros}
use Rattle.row_spans.proofs.KeptLaws.{kept-none}
use Rattle.row_spans.proofs.SpanSteps.{IsHeld-none}
use Rattle.row_spans.specs.Reduced.{kept}
use Rattle.field_rows.specs.Widths.{rows_in, width_in}
use Rattle.row_spans.proofs.span.RowSpan.clear.Goals as goal
use Rattle.row_spans.proofs.span.RowSpan.clear.Goals.{After-fill-2}

marks_are : (g : _) (c : After-fill-2 g) → c.fill.new.self.items ≡ replicate c.self.inside.rate false
marks_are g c =
    let count : vec_len c.self.inside.marks ≡ c.self.inside.rate = omega (arith, c.self.invariant.reduced.columns, c.self.inside.marks.ok) in
    c.fill.ensures.items (λ y same. same) ∙ ap (λ n. replicate n false) count

rows_are : (g : _) (c : After-fill-2 g) → rows_in c.self.inside.field c.fill-2.new.self.items ≡ replicate c.self.inside.rate (zero_row (width_in c.self.inside.field g.row.W))
rows_are g c =
    let s = c.self.inside in
    let count : vec_len s.rows ≡ s.rate = omega (arith, c.self.invariant.reduced.count, s.rows.ok, length-map s.rows.items (elements_of s.field)) in
    ap (rows_in s.field) (c.fill-2.ensures.items (λ y clone. same_from_all_zip _ _ _ clone.whole (λ a b same. same)))
    ∙ rows_in-zeros s.field g.row.W (vec_len s.rows) c.self.invariant.even
    ∙ ap (λ n. replicate n (zero_row (width_in s.field g.row.W))) count

pub invariant_of-self : goal.invariant_of-self
invariant_of-self g c =
    let s = c.self.inside in
    let h = c.self.invariant in
    rw (marks_are g c, rows_are g c) (IsHeld-none s.field g.row.W s.rate h.low_rate h.long h.short h.even h.reduced.narrow)

pub returns-clause-none : goal.returns-clause-none
returns-clause-none g c =
    let s = c.self.inside in
    ap₂ kept (marks_are g c) (rows_are g c) ∙ kept-none s.rate (replicate s.rate (zero_row (width_in s.field g.row.W)))
