use Rattle.std.proofs.Common.{◌≡◌, ◌∙◌, ap, false, replicate}
use Rattle.std.proofs.Math.Path.{ap₂}
use Rattle.std.proofs.lemmas.List.Elements.{same_from_all_zip}
use Rattle.linear_algebra.specs.Rows.{zero_row}
use Rattle.field_rows.proofs.ElementLaws.{room_in, rows_in-zeros}
use Rattle.row_spans.proofs.KeptLaws.{kept-none}
use Rattle.row_spans.proofs.SpanSteps.{IsHeld-none}
use Rattle.row_spans.specs.Reduced.{kept}
use Rattle.field_rows.specs.Widths.{rows_in, width_in}
use Rattle.row_spans.proofs.span.RowSpan.open.Goals as goal
use Rattle.row_spans.proofs.span.RowSpan.open.Goals.{In_ok-vec-2}

marks_are : (g : _) (c : In_ok-vec-2 g) → c.in_ok-vec.field-0.items ≡ replicate c.args.rate false
marks_are g c = c.in_ok-vec.ensures.items_if_clones_equal (λ y same. same)

rows_are : (g : _) (c : In_ok-vec-2 g) → rows_in c.args.field c.in_ok-vec-2.field-0.items ≡ replicate c.args.rate (zero_row (width_in c.args.field g.row.W))
rows_are g c =
    ap (rows_in c.args.field) (c.in_ok-vec-2.ensures.items_if_clones_equal (λ y clone. same_from_all_zip _ _ _ clone.whole (λ a b same. same)))
    ∙ rows_in-zeros c.args.field g.row.W c.args.rate c.requires.even

pub invariant_of-result : goal.invariant_of-result
invariant_of-result g c =
    let field = c.args.field in
    let narrow = room_in field g.row.W c.args.rate c.requires.long c.requires.low_rate in
    let none = IsHeld-none field g.row.W c.args.rate c.requires.low_rate c.requires.long c.requires.short c.requires.even narrow in
    rw (marks_are g c, rows_are g c) none

pub returns-clause-none : goal.returns-clause-none
returns-clause-none g c =
    ap₂ kept (marks_are g c) (rows_are g c) ∙ kept-none c.args.rate (replicate c.args.rate (zero_row (width_in c.args.field g.row.W)))
