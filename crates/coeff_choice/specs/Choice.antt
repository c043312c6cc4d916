-- Coefficients with which no row of a table comes to zero.
use Rattle.std.specs.Prelude.{◌≡◌, ◌≢◌, ◌<◌, ◌+◌, ◌*◌, ℕ, List, All, length, slice_index}
use Rattle.field_vectors.specs.Elements.{dot_of}
use Rattle.field_vectors.specs.Grid.{Grid, row_of, entry_of}

-- with each row of a table a place is given, and the entry there is not zero
pub record HasNonzeroAt {A : Type 0} (zero : A) (table : Grid A) (places : List ℕ) : Type 0 where
  pub each_row : length places ≡ length table.rows
  pub within : (row : ℕ) → row < length table.rows → slice_index places row < table.columns
  pub nonzero : (row : ℕ) → row < length table.rows → entry_of zero table row (slice_index places row) ≢ zero

-- an element for each column, whose products with the rows are not zero
pub record IsChoice {A : Type 0} (is_element : A → Type 0) (zero : A) (add mul : A → A → A) (table : Grid A) (choice : List A) : Type 0 where
  pub each_column : length choice ≡ table.columns
  pub elements : All is_element choice
  pub nonzero : (row : ℕ) → row < length table.rows → dot_of zero add mul choice (row_of table row) ≢ zero

-- the most multiplications and inverses for so many rows and columns
abbrev pub choice_steps : ℕ → ℕ → ℕ
choice_steps rows columns = 2 * rows * (rows + columns)
