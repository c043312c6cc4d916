-- How coefficients are chosen, row by row.
use Rattle.std.specs.Prelude.{◌≡◌, ◌≢◌, ◌<◌, ◌≤◌, ℕ, Bool, true, List, All, length, count_by, slice_index_or, slice_set}
use Rattle.field_vectors.specs.Elements.{dot_of, multiple_of}
use Rattle.field_vectors.specs.Grid.{Grid, row_of, entry_of}

-- the products with the first rows are kept, and none is zero
pub record IsChoosing {A : Type 0} (is_element : A → Type 0) (zero : A) (add mul : A → A → A) (table : Grid A) (count : ℕ) (coefficients products : List A) (marks : List Bool) : Type 0 where
  pub each_column : length coefficients ≡ table.columns
  pub elements : All is_element coefficients
  pub each_row : length products ≡ length table.rows
  pub each_mark : length marks ≡ length table.rows
  pub value : (row : ℕ) → row < count → slice_index_or products row zero ≡ dot_of zero add mul coefficients (row_of table row)
  pub nonzero : (row : ℕ) → row < count → slice_index_or products row zero ≢ zero

-- a multiple of the coefficients, with one added at a place
abbrev pub scaled_plus_unit : {A : Type 0} → A → A → (A → A → A) → (A → A → A) → A → ℕ → List A → List A
scaled_plus_unit zero one add mul by place coefficients =
    slice_set (multiple_of mul by coefficients) place (add (slice_index_or (multiple_of mul by coefficients) place zero) one)

-- the multiplier with which the product with a row would become zero
abbrev pub forbidden_at : {A : Type 0} → A → (A → A → A) → (A → A) → Grid A → ℕ → List A → ℕ → A
forbidden_at zero mul inv table place products row = mul (entry_of zero table row place) (inv (slice_index_or products row zero))

-- The numbers of the forbidden multipliers of the first rows are marked, as far as there are marks, and there are at
-- most as many marked ones as such rows.
pub record IsMarked {A : Type 0} (zero : A) (mul : A → A → A) (inv : A → A) (number : A → ℕ) (table : Grid A) (place : ℕ) (products : List A) (count : ℕ) (marks : List Bool) : Type 0 where
  pub marked : (row : ℕ) → row < count → slice_index_or marks (number (forbidden_at zero mul inv table place products row)) true ≡ true
  pub few_marks : count_by (λ mark. mark) marks ≤ count
