-- Sums of multiples of rows.
use Rattle.std.specs.Prelude.{◌≡◌, ◌≢◌, ◌↔◌, ℕ, List, length, map, take}
use Rattle.std.specs.List.{AllByRecursion}
use Rattle.gf_tables.specs.declared.kind.FieldKind.{FieldKind}
use Rattle.linear_algebra.specs.Rows.{combination, dot, zero_row, AreElements, IsRow}

-- a row is a sum of multiples of rows
pub record IsSum (field : FieldKind) (width : ℕ) (rows : List (List ℕ)) (row : List ℕ) : Type 0 where
  pub coefficients : List ℕ
  pub elements : AreElements field coefficients
  pub count : length coefficients ≡ length rows
  pub sum : combination field width coefficients rows ≡ row

-- two lists of rows have the same sums
abbrev pub HaveSameSums : FieldKind → ℕ → List (List ℕ) → List (List ℕ) → Type 0
HaveSameSums field width rows others = (row : List ℕ) → IsSum field width rows row ↔ IsSum field width others row

-- the vectors of rows: the first elements of each
abbrev pub vectors : ℕ → List (List ℕ) → List (List ℕ)
vectors rate rows = map (take rate) rows

-- a row that isn't zero and gives zero with each of so many vectors' elements
pub record IsHidden (field : FieldKind) (rate : ℕ) (vectors : List (List ℕ)) (row : List ℕ) : Type 0 where
  pub is : IsRow field rate row
  pub nonzero : row ≢ zero_row rate
  pub products : AllByRecursion (λ vector. dot field vector row ≡ 0) vectors

-- the rows that are kept, of a field, of which so many first elements are the vector
pub record Span : Type 0 where
  pub field : FieldKind
  pub rate : ℕ
  pub rows : List (List ℕ)
