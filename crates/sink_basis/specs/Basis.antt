-- Bases of the vectors of one length, and their inverse vectors.
use Rattle.std.specs.Prelude.{◌≡◌, ◌<◌, ◌==◌, ℕ, length, if◌then◌else◌}
use Rattle.field_vectors.specs.Elements.{column_of, dot_of}
use Rattle.field_vectors.specs.Grid.{Grid, row_of}

-- it is the element of its number, as just the elements are
abbrev pub IsNumbered : {A : Type 0} → (A → ℕ) → (ℕ → A) → ℕ → A → Type 0
IsNumbered number of_number size x = (number x < size) × (of_number (number x) ≡ x)

-- so many vectors of that length and as many inverse vectors: the product of vector j and inverse k is one for j = k
-- and zero otherwise, and so is the product of place i of the inverses and place j of the vectors
pub record IsBasis {A : Type 0} (zero one : A) (add mul : A → A → A) (size : ℕ) (vectors inverses : Grid A) : Type 0 where
  pub vectors_high : length vectors.rows ≡ size
  pub vectors_wide : vectors.columns ≡ size
  pub inverses_high : length inverses.rows ≡ size
  pub inverses_wide : inverses.columns ≡ size
  pub dual : (j k : ℕ) → j < size → k < size → dot_of zero add mul (row_of vectors j) (row_of inverses k) ≡ (if j == k then one else zero)
  pub spans : (i j : ℕ) → i < size → j < size → dot_of zero add mul (column_of zero i inverses.rows) (column_of zero j vectors.rows) ≡ (if i == j then one else zero)
