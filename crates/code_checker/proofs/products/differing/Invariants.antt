use Rattle.std.proofs.Common.{◌≡◌, ◌<◌, ℕ, slice_index}
use Rattle.linear_algebra.specs.Elements.{elements_of}
use Rattle.linear_algebra.specs.Rows.{unit_row}
use Rattle.code_checker.proofs.products.differing.Given as goal

-- the columns so far don't differ
abbrev pub invariant-loop-column : goal.invariant-loop-column
invariant-loop-column l = (j : ℕ) → j < l.column → slice_index (elements_of l.field l.product) j ≡ slice_index (unit_row l.rate l.row) j
