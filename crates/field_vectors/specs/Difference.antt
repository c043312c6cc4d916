-- Where the product of two matrices differs from the identity.
use Rattle.std.specs.Prelude.{◌≡◌, ◌≢◌, ℕ, ◌<◌, ◌==◌, length, if◌then◌else◌}
use Rattle.field_vectors.specs.Elements.{dot_of, column_of}
use Rattle.field_vectors.specs.Grid.{Grid, row_of}

-- an entry of a product: the product of a row of the first matrix and a column of the second
abbrev pub product_entry : {A : Type 0} → A → (A → A → A) → (A → A → A) → Grid A → Grid A → ℕ → ℕ → A
product_entry zero add mul a b i j = dot_of zero add mul (row_of a i) (column_of zero j b.rows)

-- an entry of the identity: one on the diagonal, and zero elsewhere
abbrev pub identity_entry : {A : Type 0} → A → A → ℕ → ℕ → A
identity_entry zero one i j = if i == j then one else zero

-- the first entry of row i of the product of two matrices that differs from the identity
pub record IsFirstInRow {A : Type 0} (zero one : A) (add mul : A → A → A) (a b : Grid A) (i row column : ℕ) (found : A) : Type 0 where
  pub in_row : row ≡ i
  pub in_column : column < b.columns
  pub value : found ≡ product_entry zero add mul a b i column
  pub differs : found ≢ identity_entry zero one i column
  pub before : (j : ℕ) → j < column → product_entry zero add mul a b i j ≡ identity_entry zero one i j

-- the first entry, by rows, of the product of two matrices that differs from the identity
pub record IsFirstDifference {A : Type 0} (zero one : A) (add mul : A → A → A) (a b : Grid A) (row column : ℕ) (found : A) : Type 0 where
  pub in_row : row < length a.rows
  pub in_column : column < b.columns
  pub value : found ≡ product_entry zero add mul a b row column
  pub differs : found ≢ identity_entry zero one row column
  pub before : (j : ℕ) → j < column → product_entry zero add mul a b row j ≡ identity_entry zero one row j
  pub rows_before : (i j : ℕ) → i < row → j < b.columns → product_entry zero add mul a b i j ≡ identity_entry zero one i j
