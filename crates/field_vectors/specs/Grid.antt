-- What a matrix shows: how many columns it has, and its rows.
use Rattle.std.specs.Prelude.{◌≡◌, ℕ, List, [], All, length, replicate, slice_index_or, slice_set}

-- a matrix of values, as its rows, each with one value a column
pub record Grid (A : Type 0) : Type 0 where
  pub columns : ℕ
  pub rows : List (List A)

-- row i
abbrev pub row_of : {A : Type 0} → Grid A → ℕ → List A
row_of m i = slice_index_or m.rows i []

-- the entry in row i and column j
abbrev pub entry_of : {A : Type 0} → A → Grid A → ℕ → ℕ → A
entry_of zero m i j = slice_index_or (slice_index_or m.rows i []) j zero

-- the matrix with another row at place i, and all other rows as they were
abbrev pub with_row : {A : Type 0} → Grid A → ℕ → List A → Grid A
with_row m i row = record { columns = m.columns; rows = slice_set m.rows i row }

-- the matrix whose entries are all one value
abbrev pub grid_of : {A : Type 0} → ℕ → ℕ → A → Grid A
grid_of rows columns value = record { columns = columns; rows = replicate rows (replicate columns value) }

-- each row has an entry for each column, and each entry is an element
pub record IsMatrix {A : Type 0} (is_element : A → Type 0) (m : Grid A) : Type 0 where
  pub widths : All (λ row. length row ≡ m.columns) m.rows
  pub elements : All (All is_element) m.rows

-- both are matrices of elements, as a matrix before and after a change is, and so are the vectors and the inverse
-- vectors of a basis
abbrev pub AreMatrices : {A : Type 0} → (A → Type 0) → Grid A → Grid A → Type 0
AreMatrices is_element m n = IsMatrix is_element m × IsMatrix is_element n
