-- How the entries of a matrix stand in memory: row by row.
use Rattle.std.specs.Prelude.{◌≡◌, ℕ, zero, suc, ◌+◌, ◌*◌, List, [], ◌∷◌, ◌++◌, All, length, take, drop}
use Rattle.field_vectors.specs.Grid.{Grid}

-- entries that stand row by row, cut into rows of one width
abbrev pub cut : {A : Type 0} → ℕ → ℕ → List A → List (List A)
cut zero width entries = []
cut (suc count) width entries = take width entries ∷ cut count width (drop width entries)

-- the matrix with so many rows of one width
abbrev pub grid_in : {A : Type 0} → ℕ → ℕ → List A → Grid A
grid_in count width entries = record { columns = width; rows = cut count width entries }

-- there are as many entries as rows of the width have, and each is an element
pub record AreEntries {A : Type 0} (is_element : A → Type 0) (count width : ℕ) (entries : List A) : Type 0 where
  pub all : length entries ≡ count * width
  pub elements : All is_element entries

-- a list with other items from a place on, as many as there are
abbrev pub with_part : {A : Type 0} → List A → ℕ → List A → List A
with_part xs start part = take start xs ++ (part ++ drop (start + length part) xs)
