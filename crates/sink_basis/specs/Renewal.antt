-- The inverse vectors of a basis after one of its vectors was replaced (Jaggi et al. 2005): by one pass over the old ones,
-- and as the columns of the inverse of the vectors.
use Rattle.std.specs.Prelude.{◌≡◌, ◌≢◌, ◌≤◌, ◌<◌, ◌+◌, ◌*◌, ◌==◌, ◌&&◌, not, ℕ, Bool, List, count_by, if◌then◌else◌, length}
use Rattle.std.specs.List.{range_with_len}
use Rattle.field_vectors.specs.Elements.{column_of, dot_of, plus_multiple, multiple_of}
use Rattle.field_vectors.specs.Grid.{Grid, IsMatrix, row_of, with_row}

-- A row has in addition its product with the vector times the path's row.
abbrev pub IsCleared : {A : Type 0} → A → (A → A → A) → (A → A → A) → ℕ → List A → ℕ → Grid A → Grid A → Type 0
IsCleared zero add mul path vector k old new = new ≡ with_row old k (plus_multiple add mul (row_of old k) (dot_of zero add mul vector (row_of old k)) (row_of old path))

-- Each row below the limit, other than the path's, has in addition its product with the vector times the path's row.
-- All others are as they were.
pub record IsClearedBelow {A : Type 0} (zero : A) (add mul : A → A → A) (path : ℕ) (vector : List A) (old new : Grid A) (limit : ℕ) : Type 0 where
  pub columns : new.columns ≡ old.columns
  pub height : length new.rows ≡ length old.rows
  pub own : row_of new path ≡ row_of old path
  pub before : (k : ℕ) → k < limit → k ≢ path → row_of new k ≡ plus_multiple add mul (row_of old k) (dot_of zero add mul vector (row_of old k)) (row_of old path)
  pub behind : (k : ℕ) → limit ≤ k → row_of new k ≡ row_of old k

-- The inverse of the path is divided by its product with the vector. Each other has in addition its product with the
-- vector times the new inverse of the path.
pub record IsRenewed {A : Type 0} (is_element : A → Type 0) (zero : A) (add mul : A → A → A) (inv : A → A) (path : ℕ) (vector : List A) (old new : Grid A) : Type 0 where
  pub columns : new.columns ≡ old.columns
  pub height : length new.rows ≡ length old.rows
  pub kept : IsMatrix is_element new
  pub own : row_of new path ≡ multiple_of mul (inv (dot_of zero add mul vector (row_of old path))) (row_of old path)
  pub other : (k : ℕ) → k < length old.rows → k ≢ path → row_of new k ≡ plus_multiple add mul (row_of old k) (dot_of zero add mul vector (row_of old k)) (row_of new path)

-- whether a row changes in a renewal: it isn't the path's, and its product with the vector isn't zero
abbrev pub is_changed : {A : Type 0} → (A → ℕ) → A → (A → A → A) → (A → A → A) → ℕ → List A → Grid A → ℕ → Bool
is_changed number zero add mul path vector inverses k = not (k == path) && not (number (dot_of zero add mul vector (row_of inverses k)) == 0)

-- how many other inverse vectors have a product with the vector that isn't zero
abbrev pub others_changed : {A : Type 0} → (A → ℕ) → A → (A → A → A) → (A → A → A) → ℕ → List A → Grid A → ℕ
others_changed number zero add mul path vector inverses = count_by (is_changed number zero add mul path vector inverses) (range_with_len 0 (length inverses.rows))

-- the steps for another row: its product with the vector, and where that isn't zero, the multiple that is added
abbrev pub clear_steps : {A : Type 0} → (A → ℕ) → A → (A → A → A) → (A → A → A) → ℕ → List A → Grid A → ℕ → ℕ
clear_steps number zero add mul path vector inverses k = if is_changed number zero add mul path vector inverses k then 2 * inverses.columns else inverses.columns

-- the steps of a renewal: the product of the vector with each inverse vector, the inverse of one product, the path's row
-- times that, and a multiple of this row for each other whose product isn't zero
abbrev pub renewal_steps : {A : Type 0} → (A → ℕ) → A → (A → A → A) → (A → A → A) → ℕ → List A → Grid A → ℕ
renewal_steps number zero add mul path vector inverses =
    length inverses.rows * inverses.columns + 1 + inverses.columns + others_changed number zero add mul path vector inverses * inverses.columns

-- The rows of a matrix are the columns of another.
pub record IsTransposed {A : Type 0} (is_element : A → Type 0) (zero : A) (old new : Grid A) : Type 0 where
  pub columns : new.columns ≡ length old.rows
  pub height : length new.rows ≡ old.columns
  pub kept : IsMatrix is_element new
  pub row : (k : ℕ) → k < old.columns → row_of new k ≡ column_of zero k old.rows
