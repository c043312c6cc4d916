use Rattle.std.proofs.Common.{◌≡◌, ◌<◌, ℕ, [], length, slice_index_or}
use Rattle.linear_algebra.specs.Elements.{elements_of}
use Rattle.linear_algebra.specs.Matrices.{rows_of}
use Rattle.link_rows.specs.Vectors.{widened}
use Rattle.two_sources.proofs.decoders.matrix_rows.Given as goal

-- the rows so far stand in their places
abbrev pub invariant-loop-row : goal.invariant-loop-row
invariant-loop-row l =
    (length l.rows ≡ 32)
    × ((row : ℕ) → row < l.row
    → elements_of l.field (slice_index_or l.rows row []) ≡ widened l.field (slice_index_or (rows_of l.rate l.rate l.entries) row []))
