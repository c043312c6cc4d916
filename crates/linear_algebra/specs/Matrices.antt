-- Matrices, as the lists of their rows, and their products.
use Rattle.std.specs.Prelude.{ℕ, ◌*◌, List, [], ◌∷◌, map, take, drop, slice_index}
use Rattle.std.specs.List.{range_with_len}
use Rattle.gf_tables.specs.declared.kind.FieldKind.{FieldKind}
use Rattle.linear_algebra.specs.Rows.{add_rows, combination, unit_row}

-- entries that stand row by row, cut into rows
abbrev pub rows_of : ℕ → ℕ → List ℕ → List (List ℕ)
rows_of count width entries = map (λ i. take width (drop (i * width) entries)) (range_with_len 0 count)

-- a matrix times rows: each of its rows has the coefficients of a combination of them
abbrev pub times_rows : FieldKind → ℕ → List (List ℕ) → List (List ℕ) → List (List ℕ)
times_rows field width matrix rows = map (λ coefficients. combination field width coefficients rows) matrix

-- a square matrix, whose entries stand row by row, times rows
abbrev pub matrix_times : FieldKind → ℕ → ℕ → List ℕ → List (List ℕ) → List (List ℕ)
matrix_times field width size entries rows = times_rows field width (rows_of size size entries) rows

-- the square matrix with 1 on the diagonal and zeros elsewhere
abbrev pub identity : ℕ → List (List ℕ)
identity size = map (unit_row size) (range_with_len 0 size)

-- place j of each row
abbrev pub column : ℕ → List (List ℕ) → List ℕ
column j rows = map (λ row. slice_index row j) rows

-- the sums of rows and others, row by row
abbrev pub add_blocks : List (List ℕ) → List (List ℕ) → List (List ℕ)
add_blocks [] others = []
add_blocks (row ∷ rows) [] = []
add_blocks (row ∷ rows) (other ∷ others) = add_rows row other ∷ add_blocks rows others
