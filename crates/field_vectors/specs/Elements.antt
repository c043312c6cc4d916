-- Rows and matrices of elements, as lists and lists of rows: sums, multiples and products.
use Rattle.std.specs.Prelude.{ℕ, ◌==◌, List, [], ◌∷◌, map, slice_index_or, if◌then◌else◌}
use Rattle.std.specs.List.{range_with_len}
use Rattle.std.specs.Simd.Lanes.{zip2}

-- the sum of the products of two rows, place by place
abbrev pub dot_of : {A : Type 0} → A → (A → A → A) → (A → A → A) → List A → List A → A
dot_of zero add mul [] ys = zero
dot_of zero add mul (x ∷ xs) [] = zero
dot_of zero add mul (x ∷ xs) (y ∷ ys) = add (mul x y) (dot_of zero add mul xs ys)

-- a row plus an element times another
abbrev pub plus_multiple : {A : Type 0} → (A → A → A) → (A → A → A) → List A → A → List A → List A
plus_multiple add mul row by other = zip2 (λ x y. add x (mul by y)) row other

-- an element times a row
abbrev pub multiple_of : {A : Type 0} → (A → A → A) → A → List A → List A
multiple_of mul by row = map (mul by) row

-- place j of each row
abbrev pub column_of : {A : Type 0} → A → ℕ → List (List A) → List A
column_of zero j rows = map (λ row. slice_index_or row j zero) rows

-- the products of a row and the first columns of rows
abbrev pub row_product : {A : Type 0} → A → (A → A → A) → (A → A → A) → ℕ → List (List A) → List A → List A
row_product zero add mul width rows row = map (λ j. dot_of zero add mul row (column_of zero j rows)) (range_with_len 0 width)

-- the product of matrices: an entry is the product of a row of the first and a column of the second
abbrev pub product_of : {A : Type 0} → A → (A → A → A) → (A → A → A) → ℕ → List (List A) → List (List A) → List (List A)
product_of zero add mul width matrix rows = map (row_product zero add mul width rows) matrix

-- the row with one at place i and zeros elsewhere
abbrev pub unit_of : {A : Type 0} → A → A → ℕ → ℕ → List A
unit_of zero one width i = map (λ j. if i == j then one else zero) (range_with_len 0 width)

-- the square matrix with one on the diagonal and zeros elsewhere
abbrev pub identity_of : {A : Type 0} → A → A → ℕ → List (List A)
identity_of zero one size = map (unit_of zero one size) (range_with_len 0 size)
