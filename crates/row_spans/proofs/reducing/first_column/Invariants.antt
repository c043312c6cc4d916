use Rattle.std.proofs.Common.{◌≡◌, ◌<◌, ℕ, slice_index}
use Rattle.linear_algebra.specs.Elements.{elements_of}
use Rattle.row_spans.proofs.reducing.first_column.Given as goal

-- the row is zero at the columns so far
abbrev pub invariant-loop-column : goal.invariant-loop-column
invariant-loop-column l = (j : ℕ) → j < l.column → slice_index (elements_of l.field l.row) j ≡ 0
