-- Laws of matrices: their rows and entries, and what a change of one leaves.
use Rattle.std.specs.Prelude.{◌≡◌, ◌≢◌, ℕ, ◌<◌, List, [], All, length}
use Rattle.std.proofs.lemmas.List.{get_or-set_same, get_or-set_other}
use Rattle.std.proofs.lemmas.List.Elements.{All-set, All-get_or}
use Rattle.field_vectors.specs.Grid.{Grid, row_of, with_row, IsMatrix}

-- what holds of each element holds of each entry
pub IsMatrix-map : {A : Type 0} {P Q : A → Type 0} (m : Grid A) → ((x : A) → P x → Q x) → IsMatrix P m → IsMatrix Q m
IsMatrix-map m to h = record { widths = h.widths; elements = λ i row below j x inside. to _ (h.elements i row below j x inside) }

-- a row of a matrix has an entry for each column
pub length-row_of : {A : Type 0} {P : A → Type 0} (m : Grid A) (i : ℕ) → IsMatrix P m → i < length m.rows → length (row_of m i) ≡ m.columns
length-row_of {A} m i h below = All-get_or (λ (row : List A). length row ≡ m.columns) m.rows i [] below h.widths

-- and each is an element
pub row_of-elements : {A : Type 0} {P : A → Type 0} (m : Grid A) (i : ℕ) → IsMatrix P m → i < length m.rows → All P (row_of m i)
row_of-elements {A} {P} m i h below = All-get_or (All P) m.rows i [] below h.elements

-- the row that another became
pub row_of-with_row : {A : Type 0} (m : Grid A) (i : ℕ) (row : List A) → i < length m.rows → row_of (with_row m i row) i ≡ row
row_of-with_row m i row below = get_or-set_same m.rows i row [] below

-- a row that stays
pub row_of-with_other : {A : Type 0} (m : Grid A) (i j : ℕ) (row : List A) → j ≢ i → row_of (with_row m i row) j ≡ row_of m j
row_of-with_other m i j row other = get_or-set_other m.rows i j row [] other

-- a matrix with another row of elements is one
pub with_row-IsMatrix : {A : Type 0} {P : A → Type 0} (m : Grid A) (i : ℕ) (row : List A) → IsMatrix P m → length row ≡ m.columns → All P row → IsMatrix P (with_row m i row)
with_row-IsMatrix {A} {P} m i row h wide elements = record {
  widths = All-set (λ (r : List A). length r ≡ m.columns) m.rows i row wide h.widths;
  elements = All-set (All P) m.rows i row elements h.elements;
}
