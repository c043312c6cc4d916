use Rattle.std.proofs.Common.{◌≤◌, subst}
use Rattle.linear_algebra.specs.Rows.{AreRows}
use Rattle.row_spans.proofs.KeptLaws.{AreRows-kept}
use Rattle.row_spans.proofs.SpanSteps.{rank_most}
use Rattle.row_spans.specs.Spans.{Span}
use Rattle.field_rows.specs.Widths.{rows_in, width_in}
use Rattle.row_spans.proofs.span.RowSpan.rank.Goals as goal

pub returns-clause-most : goal.returns-clause-most
returns-clause-most g c =
    let s = c.self.inside in
    let P : Span → Type 0 = λ span. s.rank ≤ span.rate in
    subst P c.self.view_is (rank_most s.field g.row.W s.rate s.rank s.marks.items (rows_in s.field s.rows.items) c.self.invariant)

pub returns-clause-rows : goal.returns-clause-rows
returns-clause-rows g c =
    let s = c.self.inside in
    let P : Span → Type 0 = λ span. AreRows span.field (width_in span.field g.row.W) span.rows in
    subst P c.self.view_is (AreRows-kept s.field (width_in s.field g.row.W) s.rate s.marks.items (rows_in s.field s.rows.items) c.self.invariant.reduced)
