use Rattle.std.proofs.Common.{◌≡◌, ◌++◌, drop, take}
use Rattle.linear_algebra.specs.Elements.{elements_of}
use Rattle.row_spans.specs.Reduced.{cleared_by}
use Rattle.field_rows.specs.Widths.{rows_in}
use Rattle.row_spans.proofs.reducing.clear_rows.Given as goal

-- the rows so far are zero at the column, and the others are as they were
abbrev pub invariant-loop-row : goal.invariant-loop-row
invariant-loop-row g l =
    let old = rows_in l.field l.fn.rows in
    rows_in l.field l.rows ≡ cleared_by l.field l.column (elements_of l.field l.lead) (take l.row-index old) ++ drop l.row-index old
