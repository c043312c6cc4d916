-- Rows of elements, by their numbers, and sums of their multiples.
use Rattle.std.specs.Prelude.{◌≡◌, ℕ, ◌<◌, ◌==◌, bit_xor, List, [], ◌∷◌, All, length, map, replicate, if◌then◌else◌}
use Rattle.std.specs.List.{AllByRecursion, range_with_len}
use Rattle.std.specs.Simd.Lanes.{zip2}
use Rattle.gf_tables.specs.declared.kind.FieldKind.{FieldKind}
use Rattle.gf_tables.specs.Product.{product, size_of}

-- the sum of two rows of one length
abbrev pub add_rows : List ℕ → List ℕ → List ℕ
add_rows xs ys = zip2 bit_xor xs ys

-- an element times a row
abbrev pub scale_row : FieldKind → ℕ → List ℕ → List ℕ
scale_row field times row = map (product field times) row

-- the row of zeros
abbrev pub zero_row : ℕ → List ℕ
zero_row width = replicate width 0

-- the row with 1 at place i and zeros elsewhere
abbrev pub unit_row : ℕ → ℕ → List ℕ
unit_row width i = map (λ j. if i == j then 1 else 0) (range_with_len 0 width)

-- the sum of rows, each times its coefficient
abbrev pub combination : FieldKind → ℕ → List ℕ → List (List ℕ) → List ℕ
combination field width [] rows = zero_row width
combination field width (times ∷ coefficients) [] = zero_row width
combination field width (times ∷ coefficients) (row ∷ rows) =
    add_rows (scale_row field times row) (combination field width coefficients rows)

-- the sum of the products of two rows, place by place
abbrev pub dot : FieldKind → List ℕ → List ℕ → ℕ
dot field [] ys = 0
dot field (x ∷ xs) [] = 0
dot field (x ∷ xs) (y ∷ ys) = bit_xor (product field x y) (dot field xs ys)

-- each number of the row is that of an element
abbrev pub AreElements : FieldKind → List ℕ → Type 0
AreElements field row = All (λ element. element < size_of field) row

-- a row of so many elements
pub record IsRow (field : FieldKind) (count : ℕ) (row : List ℕ) : Type 0 where
  pub width : length row ≡ count
  pub elements : AreElements field row

-- rows of one width, of elements
abbrev pub AreRows : FieldKind → ℕ → List (List ℕ) → Type 0
AreRows field width rows = AllByRecursion (IsRow field width) rows
