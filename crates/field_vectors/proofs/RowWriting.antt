-- A row that is written among the entries of a matrix.
use Rattle.std.proofs.Common.{◌≡◌, ℕ, ◌+◌, ◌*◌, ◌<◌, ◌≤◌, List, length}
use Rattle.std.specs.List.{All}
use Rattle.field_vectors.proofs.CutLaws.{entries-IsMatrix}
use Rattle.field_vectors.proofs.GridSteps.{shown-IsMatrix, row_below, range-within, grid_in-with_part, with_part-entries}
use Rattle.field_vectors.specs.Cut.{grid_in, AreEntries, with_part}
use Rattle.field_vectors.specs.Grid.{AreMatrices, Grid, with_row}

-- a row of the matrix ends within its entries
pub row-within : {A : Type 0} (P : A → Type 0) (count width i end : ℕ) (entries : List A) (m : Grid A) → grid_in count width entries ≡ m → i < length m.rows → end ≡ i * width + width
    → AreEntries P count width entries → end ≤ length entries
row-within P count width i end entries m shown within to are = range-within P count width i end entries (row_below count width i entries m shown within) to are

-- entries that show a matrix, and the same with another row i
pub record IsWritten {A : Type 0} (P : A → Type 0) (count width i start : ℕ) (old row new : List A) (m : Grid A) : Type 0 where
  pub shown : grid_in count width old ≡ m
  pub below : i < count
  pub from : start ≡ i * width + 0
  pub are : AreEntries P count width old
  pub long : length row ≡ width
  pub elements : All P row
  pub written : new ≡ with_part old start row

-- they are the entries of a matrix, which differs from the one before in that row
module _ {A : Type 0} {P : A → Type 0} {count width i start : ℕ} {old row new : List A} {m : Grid A} (is : IsWritten P count width i start old row new m) where
  pub written-entries : AreEntries P count width new
  written-entries = with_part-entries P count width i start old row new is.below is.from is.are is.long is.elements is.written

  pub written-matrices : AreMatrices P m (grid_in count width new)
  written-matrices = (shown-IsMatrix P count width old m is.shown is.are, entries-IsMatrix P count width new written-entries)

  pub written-value : grid_in count width new ≡ with_row (grid_in count width old) i row
  written-value = grid_in-with_part P count width i start old row new is.below is.from is.are is.long is.written
