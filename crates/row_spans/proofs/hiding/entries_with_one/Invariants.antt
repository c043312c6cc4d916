use Rattle.std.proofs.Common.{◌≡◌}
use Rattle.linear_algebra.specs.Elements.{elements_of}
use Rattle.linear_algebra.specs.Matrices.{column}
use Rattle.row_spans.proofs.HiddenSteps.{first_entries}
use Rattle.field_rows.specs.Widths.{rows_in, width_in}
use Rattle.row_spans.proofs.hiding.entries_with_one.Given as goal

-- the entries so far are written
abbrev pub invariant-loop-at : goal.invariant-loop-at
invariant-loop-at g l = elements_of l.field l.found ≡ first_entries (width_in l.field 64) (column l.place (rows_in l.field l.rows)) l.at
