use Rattle.std.proofs.Common.{◌≡◌, length}
use Rattle.linear_algebra.specs.Elements.{elements_of}
use Rattle.linear_algebra.specs.Rows.{IsRow}
use Rattle.row_spans.proofs.ClearSteps.{cleared_before}
use Rattle.field_rows.specs.Widths.{rows_in, width_in}
use Rattle.row_spans.proofs.reducing.cleared.Given as goal

-- the kept rows so far are added
abbrev pub invariant-loop-place : goal.invariant-loop-place
invariant-loop-place g l = record {
  row : IsRow l.field (width_in l.field g.row.W) (elements_of l.field l.row);
  left : elements_of l.field l.left ≡ cleared_before l.field (width_in l.field g.row.W) (length l.marks) (rows_in l.field l.rows) (elements_of l.field l.row) l.place;
}
