-- Laws of combinations of rows. A combination of rows of one width is a row of that width. It is linear in its rows
-- and in its coefficients.
use Rattle.std.specs.Prelude.{◌≡◌, ℕ, zero, suc, ◌+◌, ◌-◌, ◌<◌, ◌≤◌, ◌==◌, true, false, bit_xor, List, [], ◌∷◌, length, map, take, drop, slice_get, slice_index, unwrap_or, if◌then◌else◌}
use Rattle.std.proofs.Common.{arith, refl, sym, ap, ◌∙◌, get_or}
use Rattle.std.proofs.Math.Path.{ap₂}
use borrow.Author.Tests.{eq-eqb}
use Rattle.std.proofs.lemmas.Bool.{ne_eqb}
use Rattle.std.proofs.lemmas.List.{take-map, drop-map, take-replicate, drop-replicate}
use Rattle.std.proofs.lemmas.List.FromFn.{fill_by_all}
use Rattle.std.proofs.lemmas.List.Elements.{All-head, All-tail}
use Rattle.std.specs.List.{All, range_with_len}
use Rattle.gf_tables.specs.Product.{product, size_of}
use Rattle.gf_tables.specs.declared.kind.FieldKind.{FieldKind}
use Rattle.linear_algebra.proofs.DotLaws.{dot-add_rows_left, dot-scale_row_left, dot-zero_row_left}
use Rattle.linear_algebra.specs.Matrices.{column, add_blocks}
use Rattle.linear_algebra.proofs.RowLaws.{AreElements-head, AreElements-tail, add_rows-exchange, add_rows-assoc, add_rows-zero_row, zero_row-add_rows, zero_row-zero_row, length-add_rows, add_rows-IsRow, zero_row-IsRow, scale_row-IsRow, scale_row-one, scale_row-zero, scale_row-zero_row, length-scale_row, scale_row-scale_row, scale_row-comm, scale_row-add_rows, scale_row-xor, AreRows-get_or, take-add_rows, drop-add_rows, unit_row-before, slice_index-add_rows, slice_index-scale_row, slice_index-zero_row}
use Rattle.linear_algebra.specs.Rows.{add_rows, scale_row, zero_row, unit_row, combination, dot, AreElements, IsRow, AreRows}

-- a combination of rows of zeros
pub combination-zero_rows : (field : FieldKind) (width : ℕ) (coefficients : List ℕ) (rows : List (List ℕ)) → AreElements field coefficients → All (λ row. row ≡ zero_row width) rows
    → combination field width coefficients rows ≡ zero_row width
combination-zero_rows field width [] rows below zeros = refl
combination-zero_rows field width (times ∷ coefficients) [] below zeros = refl
combination-zero_rows field width (times ∷ coefficients) (row ∷ rows) below zeros =
    let IsZero : List ℕ → Type 0 = λ row. row ≡ zero_row width in
    let first = All-head IsZero row rows zeros in
    let scaled = scale_row-zero_row field times width (AreElements-head field times coefficients below) in
    let rest = combination-zero_rows field width coefficients rows (AreElements-tail field times coefficients below) (All-tail IsZero row rows zeros) in
    rw (first, scaled, rest) (zero_row-zero_row width)

-- a combination of one row
pub combination-single : (field : FieldKind) (width times : ℕ) (row : List ℕ) → length row ≡ width
    → combination field width (times ∷ []) (row ∷ []) ≡ scale_row field times row
combination-single field width times row e =
    rw (← e, ← length-scale_row field times row) (add_rows-zero_row (scale_row field times row))

-- the same with the coefficient 1
pub combination-one : (field : FieldKind) (width : ℕ) (row : List ℕ) → length row ≡ width → All (λ element. element < size_of field) row
    → combination field width (1 ∷ []) (row ∷ []) ≡ row
combination-one field width row e h = combination-single field width 1 row e ∙ scale_row-one field row h

-- the length of a combination
pub length-combination : (field : FieldKind) (width : ℕ) (coefficients : List ℕ) (rows : List (List ℕ)) → AreRows field width rows
    → length (combination field width coefficients rows) ≡ width
length-combination field width [] rows h = (zero_row-IsRow field width).width
length-combination field width (times ∷ coefficients) [] h = (zero_row-IsRow field width).width
length-combination field width (times ∷ coefficients) (row ∷ rows) h =
    let rest = length-combination field width coefficients rows h.1 in
    length-add_rows (scale_row field times row) (combination field width coefficients rows) (length-scale_row field times row ∙ h.0.width ∙ sym rest) ∙ rest

-- a combination of rows of one width, of elements, is one too, also where there are more coefficients than rows or fewer
pub combination-IsRow : (field : FieldKind) (width : ℕ) (coefficients : List ℕ) (rows : List (List ℕ)) → AreElements field coefficients → AreRows field width rows
    → IsRow field width (combination field width coefficients rows)
combination-IsRow field width [] rows h k = zero_row-IsRow field width
combination-IsRow field width (times ∷ coefficients) [] h k = zero_row-IsRow field width
combination-IsRow field width (times ∷ coefficients) (row ∷ rows) h k =
    add_rows-IsRow field width (scale_row field times row) (combination field width coefficients rows)
    (scale_row-IsRow field width times row (AreElements-head field times coefficients h) k.0)
    (combination-IsRow field width coefficients rows (AreElements-tail field times coefficients h) k.1)

-- a combination of sums of rows
pub combination-add_blocks : (field : FieldKind) (width : ℕ) (coefficients : List ℕ) (rows others : List (List ℕ)) → AreElements field coefficients
    → AreRows field width rows → AreRows field width others → length rows ≡ length others
    → combination field width coefficients (add_blocks rows others) ≡ add_rows (combination field width coefficients rows) (combination field width coefficients others)
combination-add_blocks field width [] rows others h k l same = sym (zero_row-zero_row width)
combination-add_blocks field width (times ∷ coefficients) [] [] h k l same = sym (zero_row-zero_row width)
combination-add_blocks field width (times ∷ coefficients) [] (other ∷ others) h k l same = absurd (omega arith)
combination-add_blocks field width (times ∷ coefficients) (row ∷ rows) [] h k l same = absurd (omega arith)
combination-add_blocks field width (times ∷ coefficients) (row ∷ rows) (other ∷ others) h k l same =
    rw (
      scale_row-add_rows field times row other (AreElements-head field times coefficients h) k.0.elements l.0.elements,
      combination-add_blocks field width coefficients rows others (AreElements-tail field times coefficients h) k.1 l.1 (omega arith),
    )
    (add_rows-exchange (scale_row field times row) (scale_row field times other) (combination field width coefficients rows) (combination field width coefficients others))

-- a combination of multiples of rows by one element
pub combination-map-scale_row : (field : FieldKind) (width a : ℕ) (coefficients : List ℕ) (rows : List (List ℕ)) → a < size_of field → AreElements field coefficients
    → AreRows field width rows
    → combination field width coefficients (map (scale_row field a) rows) ≡ scale_row field a (combination field width coefficients rows)
combination-map-scale_row field width a [] rows below h k = sym (scale_row-zero_row field a width below)
combination-map-scale_row field width a (times ∷ coefficients) [] below h k = sym (scale_row-zero_row field a width below)
combination-map-scale_row field width a (times ∷ coefficients) (row ∷ rows) below h k =
    let below_times = AreElements-head field times coefficients h in
    let rest = AreElements-tail field times coefficients h in
    rw (
      scale_row-comm field times a row below_times below k.0.elements,
      combination-map-scale_row field width a coefficients rows below rest k.1,
    )
    (sym (scale_row-add_rows field a (scale_row field times row) (combination field width coefficients rows) below
    (scale_row-IsRow field width times row below_times k.0).elements (combination-IsRow field width coefficients rows rest k.1).elements))

-- a combination with sums of coefficients
pub combination-add_rows : (field : FieldKind) (width : ℕ) (xs ys : List ℕ) (rows : List (List ℕ)) → AreElements field xs → AreElements field ys → length xs ≡ length ys
    → AreRows field width rows
    → combination field width (add_rows xs ys) rows ≡ add_rows (combination field width xs rows) (combination field width ys rows)
combination-add_rows field width [] [] rows h k same l = sym (zero_row-zero_row width)
combination-add_rows field width [] (y ∷ ys) rows h k same l = absurd (omega arith)
combination-add_rows field width (x ∷ xs) [] rows h k same l = absurd (omega arith)
combination-add_rows field width (x ∷ xs) (y ∷ ys) [] h k same l = sym (zero_row-zero_row width)
combination-add_rows field width (x ∷ xs) (y ∷ ys) (row ∷ rows) h k same l =
    rw (
      scale_row-xor field x y row (AreElements-head field x xs h) (AreElements-head field y ys k) l.0.elements,
      combination-add_rows field width xs ys rows (AreElements-tail field x xs h) (AreElements-tail field y ys k) (omega arith) l.1,
    )
    (add_rows-exchange (scale_row field x row) (scale_row field y row) (combination field width xs rows) (combination field width ys rows))

-- a combination with multiples of coefficients by one element
pub combination-scale_row : (field : FieldKind) (width a : ℕ) (coefficients : List ℕ) (rows : List (List ℕ)) → a < size_of field → AreElements field coefficients
    → AreRows field width rows
    → combination field width (scale_row field a coefficients) rows ≡ scale_row field a (combination field width coefficients rows)
combination-scale_row field width a [] rows below h k = sym (scale_row-zero_row field a width below)
combination-scale_row field width a (times ∷ coefficients) [] below h k = sym (scale_row-zero_row field a width below)
combination-scale_row field width a (times ∷ coefficients) (row ∷ rows) below h k =
    let below_times = AreElements-head field times coefficients h in
    let rest = AreElements-tail field times coefficients h in
    rw (
      ← scale_row-scale_row field a times row below below_times k.0.elements,
      combination-scale_row field width a coefficients rows below rest k.1,
    )
    (sym (scale_row-add_rows field a (scale_row field times row) (combination field width coefficients rows) below
    (scale_row-IsRow field width times row below_times k.0).elements (combination-IsRow field width coefficients rows rest k.1).elements))

-- a combination with zeros
pub combination-zero_row : (field : FieldKind) (width count : ℕ) (rows : List (List ℕ)) → AreRows field width rows
    → combination field width (zero_row count) rows ≡ zero_row width
combination-zero_row field width zero rows h = refl
combination-zero_row field width (suc count) [] h = refl
combination-zero_row field width (suc count) (row ∷ rows) h =
    rw (scale_row-zero field row, h.0.width, combination-zero_row field width count rows h.1) (zero_row-zero_row width)

-- a combination of one more of the rows
pub combination-take_more : (field : FieldKind) (width k : ℕ) (coefficients : List ℕ) (rows : List (List ℕ)) → k < length coefficients → k < length rows
    → length (get_or rows k []) ≡ width
    → combination field width (take (suc k) coefficients) (take (suc k) rows)
    ≡ add_rows (combination field width (take k coefficients) (take k rows)) (scale_row field (slice_index coefficients k) (get_or rows k []))
combination-take_more field width k [] rows below within long = absurd (omega arith)
combination-take_more field width k (times ∷ coefficients) [] below within long = absurd (omega arith)
combination-take_more field width zero (times ∷ coefficients) (row ∷ rows) below within long =
    let wide : zero_row width ≡ zero_row (length (scale_row field times row)) = ap zero_row (sym (length-scale_row field times row ∙ long)) in
    combination-single field width times row long ∙ sym (rw wide (zero_row-add_rows (scale_row field times row)))
combination-take_more field width (suc k) (times ∷ coefficients) (row ∷ rows) below within long =
    rw (combination-take_more field width k coefficients rows (omega arith) (omega arith) long)
    (sym (add_rows-assoc (scale_row field times row) (combination field width (take k coefficients) (take k rows))
    (scale_row field (slice_index coefficients k) (get_or rows k []))))

-- a combination with 1 at one place and zeros elsewhere, of the rows from a place on
combination-unit_row_from : (field : FieldKind) (width a i k : ℕ) (rows : List (List ℕ)) → a + k ≡ i → k < length rows → AreRows field width rows
    → combination field width (map (λ j. if i == j then 1 else 0) (range_with_len a (length rows))) rows ≡ get_or rows k []
combination-unit_row_from field width a i k [] at below h = absurd (omega arith)
combination-unit_row_from field width a i zero (row ∷ rows) at below h =
    let yes : (i == a) ≡ true = eq-eqb i a (omega arith) in
    rw (
      yes,
      scale_row-one field row h.0.elements,
      unit_row-before i (a + 1) (length rows) (omega arith),
      combination-zero_row field width (length rows) rows h.1,
      ← h.0.width,
    ) (add_rows-zero_row row)
combination-unit_row_from field width a i (suc k) (row ∷ rows) at below h =
    let no : (i == a) ≡ false = ne_eqb i a (λ e. omega arith) in
    let here = AreRows-get_or field width k rows (omega arith) h.1 in
    rw (no, scale_row-zero field row, h.0.width, combination-unit_row_from field width (a + 1) i k rows (omega arith) (omega arith) h.1, ← here.width)
    (zero_row-add_rows (get_or rows k []))

-- the combination with 1 at one place and zeros elsewhere is the row there
pub combination-unit_row : (field : FieldKind) (width count i : ℕ) (rows : List (List ℕ)) → i < count → length rows ≡ count → AreRows field width rows
    → combination field width (unit_row count i) rows ≡ get_or rows i []
combination-unit_row field width count i rows below same h =
    rw (← same) (combination-unit_row_from field width 0 i i rows (omega arith) (omega arith) h)

-- the row at a place, by `get`
pub unwrap_or-slice_get : (rows : List (List ℕ)) (i : ℕ) → unwrap_or (slice_get rows i) [] ≡ get_or rows i []
unwrap_or-slice_get [] i = refl
unwrap_or-slice_get (row ∷ rows) zero = refl
unwrap_or-slice_get (row ∷ rows) (suc i) = unwrap_or-slice_get rows i

-- an entry of a combination is the sum of the products of the coefficients and the entries of the column
pub slice_index-combination : (field : FieldKind) (width : ℕ) (coefficients : List ℕ) (rows : List (List ℕ)) (j : ℕ) → AreElements field coefficients → AreRows field width rows
    → slice_index (combination field width coefficients rows) j ≡ dot field coefficients (column j rows)
slice_index-combination field width [] rows j h k = slice_index-zero_row width j
slice_index-combination field width (times ∷ coefficients) [] j h k = slice_index-zero_row width j
slice_index-combination field width (times ∷ coefficients) (row ∷ rows) j h k =
    let same = length-scale_row field times row ∙ k.0.width ∙ sym (length-combination field width coefficients rows k.1) in
    rw (
      slice_index-add_rows (scale_row field times row) (combination field width coefficients rows) j same,
      slice_index-scale_row field times row j (AreElements-head field times coefficients h),
      slice_index-combination field width coefficients rows j (AreElements-tail field times coefficients h) k.1,
    ) refl

-- a combination, entry by entry
pub combination-columns : (field : FieldKind) (width : ℕ) (coefficients : List ℕ) (rows : List (List ℕ)) → AreElements field coefficients → AreRows field width rows
    → combination field width coefficients rows ≡ map (λ j. dot field coefficients (column j rows)) (range_with_len 0 width)
combination-columns field width coefficients rows h k =
    fill_by_all (λ j. dot field coefficients (column j rows)) (combination field width coefficients rows) width 0 (length-combination field width coefficients rows k)
    (λ j below. slice_index-combination field width coefficients rows j h k)

-- the first entries of a combination
pub take-combination : (field : FieldKind) (width n : ℕ) (coefficients : List ℕ) (rows : List (List ℕ)) → n ≤ width
    → take n (combination field width coefficients rows) ≡ combination field n coefficients (map (take n) rows)
take-combination field width n [] rows within = take-replicate n width 0 within
take-combination field width n (times ∷ coefficients) [] within = take-replicate n width 0 within
take-combination field width n (times ∷ coefficients) (row ∷ rows) within =
    rw (
      take-add_rows n (scale_row field times row) (combination field width coefficients rows),
      take-map (product field times) n row,
      take-combination field width n coefficients rows within,
    ) refl

-- the entries of a combination from a place on
pub drop-combination : (field : FieldKind) (width n : ℕ) (coefficients : List ℕ) (rows : List (List ℕ)) → AreRows field width rows
    → drop n (combination field width coefficients rows) ≡ combination field (width - n) coefficients (map (drop n) rows)
drop-combination field width n [] rows h = drop-replicate n width 0
drop-combination field width n (times ∷ coefficients) [] h = drop-replicate n width 0
drop-combination field width n (times ∷ coefficients) (row ∷ rows) h =
    let same = length-scale_row field times row ∙ h.0.width ∙ sym (length-combination field width coefficients rows h.1) in
    rw (
      drop-add_rows n (scale_row field times row) (combination field width coefficients rows) same,
      drop-map (product field times) n row,
      drop-combination field width n coefficients rows h.1,
    ) refl

-- the product of a combination of rows and a row is the sum of the products with the coefficients
pub dot-combination : (field : FieldKind) (width : ℕ) (coefficients : List ℕ) (rows : List (List ℕ)) (v : List ℕ) → AreElements field coefficients → AreRows field width rows → IsRow field width v
    → dot field (combination field width coefficients rows) v ≡ dot field coefficients (map (λ row. dot field row v) rows)
dot-combination field width [] rows v h k l = dot-zero_row_left field width v
dot-combination field width (times ∷ coefficients) [] v h k l = dot-zero_row_left field width v
dot-combination field width (times ∷ coefficients) (row ∷ rows) v h k l =
    let below = AreElements-head field times coefficients h in
    let rest = AreElements-tail field times coefficients h in
    let first = scale_row-IsRow field width times row below k.0 in
    let others = combination-IsRow field width coefficients rows rest k.1 in
    dot-add_rows_left field (scale_row field times row) (combination field width coefficients rows) v first.elements others.elements l.elements (first.width ∙ sym others.width)
    ∙ ap₂ bit_xor (dot-scale_row_left field times row v below k.0.elements l.elements) (dot-combination field width coefficients rows v rest k.1 l)
