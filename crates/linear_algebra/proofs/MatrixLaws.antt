-- Laws of matrices. Their products associate, and the identity is neutral on both sides.
use Rattle.std.specs.Prelude.{◌≡◌, ℕ, zero, suc, ◌+◌, ◌*◌, ◌<◌, ◌==◌, List, [], ◌∷◌, length, map, take, drop, slice_index, if◌then◌else◌}
use Rattle.std.proofs.Common.{arith, refl, sym, ap, ◌∙◌, inl, inr}
use borrow.Author.Tests.{eq-eqb}
use Rattle.std.proofs.lemmas.Bool.{ne_eqb}
use Rattle.std.proofs.lemmas.Bool.Decides.{eqb_tells}
use Rattle.std.proofs.lemmas.List.{length-map, ext_get_or}
use Rattle.std.proofs.lemmas.List.FromFn.{length-map-range_with_len, fill_by_all}
use Rattle.std.proofs.lemmas.Simd.{map-map}
use Rattle.std.specs.List.{range_with_len}
use Rattle.gf_tables.specs.declared.kind.FieldKind.{FieldKind}
use Rattle.linear_algebra.proofs.CombinationLaws.{length-combination, combination-IsRow, combination-unit_row, slice_index-combination, combination-columns, combination-add_rows, combination-scale_row, combination-zero_row}
use Rattle.linear_algebra.proofs.DotLaws.{dot-unit_row}
use Rattle.linear_algebra.specs.Matrices.{rows_of, times_rows, identity, column, add_blocks}
use Rattle.linear_algebra.proofs.RowLaws.{AreElements-head, AreElements-tail, add_rows-IsRow, unit_row-IsRow, slice_index-unit_row, length-scale_row, scale_row-elements}
use Rattle.linear_algebra.specs.Rows.{scale_row, unit_row, combination, dot, AreElements, IsRow, AreRows}

-- a matrix times rows of one width gives rows of that width
pub times_rows-AreRows : (field : FieldKind) (width size : ℕ) (matrix rows : List (List ℕ)) → AreRows field size matrix → AreRows field width rows
    → AreRows field width (times_rows field width matrix rows)
times_rows-AreRows field width size [] rows h k = tt
times_rows-AreRows field width size (coefficients ∷ matrix) rows h k =
    (combination-IsRow field width coefficients rows h.0.elements k, times_rows-AreRows field width size matrix rows h.1 k)

-- a combination of the rows of a product
pub combination-times_rows : (field : FieldKind) (width size : ℕ) (coefficients : List ℕ) (matrix rows : List (List ℕ)) → AreElements field coefficients
    → AreRows field size matrix → AreRows field width rows
    → combination field width coefficients (times_rows field width matrix rows) ≡ combination field width (combination field size coefficients matrix) rows
combination-times_rows field width size [] matrix rows h k l = sym (combination-zero_row field width size rows l)
combination-times_rows field width size (times ∷ coefficients) [] rows h k l = sym (combination-zero_row field width size rows l)
combination-times_rows field width size (times ∷ coefficients) (row ∷ matrix) rows h k l =
    let below = AreElements-head field times coefficients h in
    let rest = AreElements-tail field times coefficients h in
    let under = combination-IsRow field size coefficients matrix rest k.1 in
    rw (
      ← combination-scale_row field width times row rows below k.0.elements l,
      combination-times_rows field width size coefficients matrix rows rest k.1 l,
    )
    (sym (combination-add_rows field width (scale_row field times row) (combination field size coefficients matrix) rows
    (scale_row-elements field times row below k.0.elements) under.elements (length-scale_row field times row ∙ k.0.width ∙ sym under.width) l))

-- products associate: a matrix times a matrix times rows
pub times_rows-times_rows : (field : FieldKind) (width size middle : ℕ) (matrix others rows : List (List ℕ)) → AreRows field middle matrix
    → AreRows field size others → AreRows field width rows
    → times_rows field width matrix (times_rows field width others rows) ≡ times_rows field width (times_rows field size matrix others) rows
times_rows-times_rows field width size middle [] others rows h k l = refl
times_rows-times_rows field width size middle (coefficients ∷ matrix) others rows h k l =
    rw (
      combination-times_rows field width size coefficients others rows h.0.elements k l,
      times_rows-times_rows field width size middle matrix others rows h.1 k l,
    ) refl

-- the length of a product
pub length-times_rows : (field : FieldKind) (width : ℕ) (matrix rows : List (List ℕ)) → length (times_rows field width matrix rows) ≡ length matrix
length-times_rows field width matrix rows = length-map matrix (λ coefficients. combination field width coefficients rows)

-- the identity has as many rows as its size
pub length-identity : (size : ℕ) → length (identity size) ≡ size
length-identity size = length-map-range_with_len (unit_row size) 0 size

-- the rows of the identity from a place on
identity_rows : (field : FieldKind) (size a n : ℕ) → AreRows field size (map (unit_row size) (range_with_len a n))
identity_rows field size a zero = tt
identity_rows field size a (suc n) = (unit_row-IsRow field size a, identity_rows field size (a + 1) n)

-- the identity is a matrix of elements
pub identity-AreRows : (field : FieldKind) (size : ℕ) → AreRows field size (identity size)
identity-AreRows field size = identity_rows field size 0 size

-- the identity times rows
pub identity-times_rows : (field : FieldKind) (width size : ℕ) (rows : List (List ℕ)) → length rows ≡ size → AreRows field width rows
    → times_rows field width (identity size) rows ≡ rows
identity-times_rows field width size rows same h =
    let picked = λ (i : ℕ). combination field width (unit_row size i) rows in
    map-map (λ (coefficients : List ℕ). combination field width coefficients rows) (unit_row size) (range_with_len 0 size)
    ∙ sym (fill_by_all picked rows size [] same (λ k below. sym (combination-unit_row field width size k rows below same h)))

-- two maps that agree on each number are one
map_agree : {X : Type 0} (f g : ℕ → X) → ((i : ℕ) → f i ≡ g i) → (xs : List ℕ) → map f xs ≡ map g xs
map_agree f g same [] = refl
map_agree f g same (x ∷ xs) = rw (same x, map_agree f g same xs) refl

-- whether two numbers are equal, in either order
equal_comm : (a b : ℕ) → (a == b) ≡ (b == a)
equal_comm a b = elim (eqb_tells a b) [ inl p ↦ p.0 ∙ sym (eq-eqb b a (sym p.1)) | inr p ↦ p.0 ∙ sym (ne_eqb b a (λ e. p.1 (sym e))) ]

-- a column of the identity
pub column-identity : (size j : ℕ) → j < size → column j (identity size) ≡ unit_row size j
column-identity size j below =
    map-map (λ (row : List ℕ). slice_index row j) (unit_row size) (range_with_len 0 size)
    ∙ map_agree (λ i. slice_index (unit_row size i) j) (λ i. if j == i then 1 else 0)
    (λ i. slice_index-unit_row size i j below ∙ ap (λ b. if b then 1 else 0) (equal_comm i j)) (range_with_len 0 size)

-- a combination of the rows of the identity
pub combination-identity : (field : FieldKind) (size : ℕ) (row : List ℕ) → IsRow field size row → combination field size row (identity size) ≡ row
combination-identity field size row h =
    let long = length-combination field size row (identity size) (identity-AreRows field size) in
    ext_get_or 0 (combination field size row (identity size)) row (long ∙ sym h.width)
    (λ j inside.
    let below : j < size = omega (arith, long) in
    slice_index-combination field size row (identity size) j h.elements (identity-AreRows field size)
    ∙ ap (dot field row) (column-identity size j below) ∙ dot-unit_row field size j row below h)

-- a matrix times the identity
pub times_rows-identity : (field : FieldKind) (size : ℕ) (matrix : List (List ℕ)) → AreRows field size matrix → times_rows field size matrix (identity size) ≡ matrix
times_rows-identity field size [] h = refl
times_rows-identity field size (row ∷ matrix) h =
    rw (combination-identity field size row h.0, times_rows-identity field size matrix h.1) refl

-- sums of rows are rows
pub add_blocks-AreRows : (field : FieldKind) (width : ℕ) (rows others : List (List ℕ)) → AreRows field width rows → AreRows field width others
    → AreRows field width (add_blocks rows others)
add_blocks-AreRows field width [] others h k = tt
add_blocks-AreRows field width (row ∷ rows) [] h k = tt
add_blocks-AreRows field width (row ∷ rows) (other ∷ others) h k = (add_rows-IsRow field width row other h.0 k.0, add_blocks-AreRows field width rows others h.1 k.1)

-- the number of sums
pub length-add_blocks : (rows others : List (List ℕ)) → length rows ≡ length others → length (add_blocks rows others) ≡ length others
length-add_blocks [] [] same = refl
length-add_blocks [] (other ∷ others) same = absurd (omega arith)
length-add_blocks (row ∷ rows) [] same = absurd (omega arith)
length-add_blocks (row ∷ rows) (other ∷ others) same =
    let rest : length rows ≡ length others = omega arith in
    ap suc (length-add_blocks rows others rest)

-- the length of a column
pub length-column : (j : ℕ) (rows : List (List ℕ)) → length (column j rows) ≡ length rows
length-column j rows = length-map rows (λ row. slice_index row j)

-- the number of rows that entries are cut into
pub length-rows_of : (count width : ℕ) (entries : List ℕ) → length (rows_of count width entries) ≡ count
length-rows_of count width entries = length-map-range_with_len (λ i. take width (drop (i * width) entries)) 0 count

-- a product, entry by entry: each is the product of a row and a column
pub times_rows-columns : (field : FieldKind) (width size : ℕ) (matrix rows : List (List ℕ)) → AreRows field size matrix → AreRows field width rows
    → times_rows field width matrix rows ≡ map (λ coefficients. map (λ j. dot field coefficients (column j rows)) (range_with_len 0 width)) matrix
times_rows-columns field width size [] rows h k = refl
times_rows-columns field width size (coefficients ∷ matrix) rows h k =
    rw (combination-columns field width coefficients rows h.0.elements k, times_rows-columns field width size matrix rows h.1 k) refl
