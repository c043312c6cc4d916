use Rattle.std.proofs.Common.{◌≡◌, ◌<◌, ℕ, [], length, slice_index_or}
use Rattle.linear_algebra.specs.Elements.{elements_of}
use Rattle.linear_algebra.specs.Rows.{unit_row}
use Rattle.link_rows.specs.Vectors.{wide_width}
use Rattle.link_rows.proofs.vectors.unit_rows.Given as goal

-- the rows so far are unit rows
abbrev pub invariant-loop-place : goal.invariant-loop-place
invariant-loop-place l =
    (length l.rows ≡ 32) × ((place : ℕ) → place < l.place → elements_of l.field (slice_index_or l.rows place []) ≡ unit_row (wide_width l.field) place)
