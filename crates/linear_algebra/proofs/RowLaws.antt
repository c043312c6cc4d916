-- Laws of rows. Addition associates and commutes, zeros add nothing, and a row plus itself is zeros. 1 times a row
-- is the row, and 0 times a row is zeros.
use Rattle.std.specs.Prelude.{◌≡◌, ℕ, zero, suc, ◌+◌, ◌<◌, ◌==◌, Bool, true, false, bit_xor, List, [], ◌∷◌, ◌++◌, length, map, take, drop, slice_index, if◌then◌else◌}
use Rattle.std.proofs.Common.{arith, refl, sym, ap, ◌∙◌, get_or}
use Rattle.std.proofs.lemmas.Bool.{ne_eqb}
use Rattle.std.specs.Int.Bits.{xor_zero_l, xor_zero_r, xor_self, xor_assoc}
use Rattle.std.specs.List.{All, range_with_len}
use Rattle.std.proofs.lemmas.List.{length-replicate, map-append}
use Rattle.std.proofs.lemmas.List.Elements.{All-nil, All-cons, All-head, All-tail, All-replicate, All-map}
use Rattle.std.proofs.lemmas.List.FromFn.{length-map-range_with_len, get_or-map-range_with_len}
use Rattle.std.proofs.lemmas.Nat.{xor_comm}
use Rattle.gf_tables.proofs.KindField.{kind_field, product_zero}
use Rattle.gf_tables.specs.Product.{product, size_of}
use Rattle.gf_tables.specs.declared.kind.FieldKind.{FieldKind}
use Rattle.linear_algebra.proofs.FieldLaws.{product-zero, product-xor}
use Rattle.linear_algebra.specs.Rows.{add_rows, scale_row, zero_row, unit_row, AreElements, IsRow, AreRows}

-- the first number of a row of elements
pub AreElements-head : (field : FieldKind) (x : ℕ) (xs : List ℕ) → AreElements field (x ∷ xs) → x < size_of field
AreElements-head field x xs h = All-head (λ element. element < size_of field) x xs h

-- the others
pub AreElements-tail : (field : FieldKind) (x : ℕ) (xs : List ℕ) → AreElements field (x ∷ xs) → AreElements field xs
AreElements-tail field x xs h = All-tail (λ element. element < size_of field) x xs h

-- a number and then others
pub AreElements-cons : (field : FieldKind) (x : ℕ) (xs : List ℕ) → x < size_of field → AreElements field xs → AreElements field (x ∷ xs)
AreElements-cons field x xs below h = All-cons (λ element. element < size_of field) x xs below h

-- the row of no elements
pub AreElements-nil : (field : FieldKind) → AreElements field []
AreElements-nil field = All-nil (λ element. element < size_of field)

-- a sum of rows may be bracketed either way
pub add_rows-assoc : (xs ys zs : List ℕ) → add_rows (add_rows xs ys) zs ≡ add_rows xs (add_rows ys zs)
add_rows-assoc [] ys zs = refl
add_rows-assoc (x ∷ xs) [] zs = refl
add_rows-assoc (x ∷ xs) (y ∷ ys) [] = refl
add_rows-assoc (x ∷ xs) (y ∷ ys) (z ∷ zs) = rw (xor_assoc x y z, add_rows-assoc xs ys zs) refl

-- a sum of rows may be taken in either order
pub add_rows-comm : (xs ys : List ℕ) → add_rows xs ys ≡ add_rows ys xs
add_rows-comm [] [] = refl
add_rows-comm [] (y ∷ ys) = refl
add_rows-comm (x ∷ xs) [] = refl
add_rows-comm (x ∷ xs) (y ∷ ys) = rw (xor_comm x y, add_rows-comm xs ys) refl

-- the first two of three summands may change places
pub add_rows-left_comm : (xs ys zs : List ℕ) → add_rows xs (add_rows ys zs) ≡ add_rows ys (add_rows xs zs)
add_rows-left_comm xs ys zs =
    sym (add_rows-assoc xs ys zs) ∙ ap (λ (row : List ℕ). add_rows row zs) (add_rows-comm xs ys) ∙ add_rows-assoc ys xs zs

-- a sum of two sums, with the inner summands exchanged
pub add_rows-exchange : (ws xs ys zs : List ℕ) → add_rows (add_rows ws xs) (add_rows ys zs) ≡ add_rows (add_rows ws ys) (add_rows xs zs)
add_rows-exchange ws xs ys zs =
    add_rows-assoc ws xs (add_rows ys zs) ∙ ap (λ (row : List ℕ). add_rows ws row) (add_rows-left_comm xs ys zs)
    ∙ sym (add_rows-assoc ws ys (add_rows xs zs))

-- a row plus itself
pub add_rows-self : (row : List ℕ) → add_rows row row ≡ zero_row (length row)
add_rows-self [] = refl
add_rows-self (x ∷ xs) = rw (xor_self x, add_rows-self xs) refl

-- the row of zeros plus a row
pub zero_row-add_rows : (row : List ℕ) → add_rows (zero_row (length row)) row ≡ row
zero_row-add_rows [] = refl
zero_row-add_rows (x ∷ xs) = rw (xor_zero_l x, zero_row-add_rows xs) refl

-- a row plus the row of zeros
pub add_rows-zero_row : (row : List ℕ) → add_rows row (zero_row (length row)) ≡ row
add_rows-zero_row [] = refl
add_rows-zero_row (x ∷ xs) = rw (xor_zero_r x, add_rows-zero_row xs) refl

-- the row of zeros twice
pub zero_row-zero_row : (width : ℕ) → add_rows (zero_row width) (zero_row width) ≡ zero_row width
zero_row-zero_row zero = refl
zero_row-zero_row (suc width) = ap (λ (row : List ℕ). 0 ∷ row) (zero_row-zero_row width)

-- a row added twice to another of its length
pub add_rows-twice : (xs ys : List ℕ) → length xs ≡ length ys → add_rows xs (add_rows xs ys) ≡ ys
add_rows-twice xs ys same =
    rw (← add_rows-assoc xs xs ys, add_rows-self xs, same) (zero_row-add_rows ys)

-- the length of a sum of rows of one length
pub length-add_rows : (xs ys : List ℕ) → length xs ≡ length ys → length (add_rows xs ys) ≡ length ys
length-add_rows [] [] same = refl
length-add_rows [] (y ∷ ys) same = absurd (omega arith)
length-add_rows (x ∷ xs) [] same = absurd (omega arith)
length-add_rows (x ∷ xs) (y ∷ ys) same =
    let rest : length xs ≡ length ys = omega arith in
    let sum = length-add_rows xs ys rest in
    omega arith

-- a sum of rows of elements has elements
pub add_rows-elements : (field : FieldKind) (xs ys : List ℕ) → All (λ element. element < size_of field) xs → All (λ element. element < size_of field) ys
    → All (λ element. element < size_of field) (add_rows xs ys)
add_rows-elements field [] ys h k = AreElements-nil field
add_rows-elements field (x ∷ xs) [] h k = AreElements-nil field
add_rows-elements field (x ∷ xs) (y ∷ ys) h k =
    AreElements-cons field (bit_xor x y) (add_rows xs ys)
    ((kind_field field).add_element x y (AreElements-head field x xs h) (AreElements-head field y ys k))
    (add_rows-elements field xs ys (AreElements-tail field x xs h) (AreElements-tail field y ys k))

-- a sum of rows of one width, of elements, is one too
pub add_rows-IsRow : (field : FieldKind) (width : ℕ) (xs ys : List ℕ) → IsRow field width xs → IsRow field width ys → IsRow field width (add_rows xs ys)
add_rows-IsRow field width xs ys h k = record {
  width = length-add_rows xs ys (h.width ∙ sym k.width) ∙ k.width;
  elements = add_rows-elements field xs ys h.elements k.elements;
}

-- the row of zeros is a row of elements
pub zero_row-IsRow : (field : FieldKind) (width : ℕ) → IsRow field width (zero_row width)
zero_row-IsRow field width = record {
  width = length-replicate width 0;
  elements = All-replicate (λ element. element < size_of field) width 0 (kind_field field).zero_element;
}

-- 1 times a row of elements
pub scale_row-one : (field : FieldKind) (row : List ℕ) → All (λ element. element < size_of field) row → scale_row field 1 row ≡ row
scale_row-one field [] h = refl
scale_row-one field (x ∷ xs) h =
    rw ((kind_field field).one_mul x (AreElements-head field x xs h), scale_row-one field xs (AreElements-tail field x xs h)) refl

-- 0 times a row
pub scale_row-zero : (field : FieldKind) (row : List ℕ) → scale_row field 0 row ≡ zero_row (length row)
scale_row-zero field [] = refl
scale_row-zero field (x ∷ xs) = rw (product_zero field x, scale_row-zero field xs) refl

-- a multiple of the row of zeros
pub scale_row-zero_row : (field : FieldKind) (times width : ℕ) → times < size_of field → scale_row field times (zero_row width) ≡ zero_row width
scale_row-zero_row field times zero below = refl
scale_row-zero_row field times (suc width) below =
    rw (product-zero field times below, scale_row-zero_row field times width below) refl

-- the length of a multiple of a row
pub length-scale_row : (field : FieldKind) (times : ℕ) (row : List ℕ) → length (scale_row field times row) ≡ length row
length-scale_row field times [] = refl
length-scale_row field times (x ∷ xs) = ap suc (length-scale_row field times xs)

-- a multiple of a row of elements has elements
pub scale_row-elements : (field : FieldKind) (times : ℕ) (row : List ℕ) → times < size_of field → AreElements field row → AreElements field (scale_row field times row)
scale_row-elements field times [] below h = AreElements-nil field
scale_row-elements field times (x ∷ xs) below h =
    AreElements-cons field (product field times x) (scale_row field times xs)
    ((kind_field field).mul_element times x below (AreElements-head field x xs h))
    (scale_row-elements field times xs below (AreElements-tail field x xs h))

-- a multiple of a row of one width, of elements, is one too
pub scale_row-IsRow : (field : FieldKind) (width times : ℕ) (row : List ℕ) → times < size_of field → IsRow field width row → IsRow field width (scale_row field times row)
scale_row-IsRow field width times row below h = record {
  width = length-scale_row field times row ∙ h.width;
  elements = scale_row-elements field times row below h.elements;
}

-- a multiple of a multiple of a row
pub scale_row-scale_row : (field : FieldKind) (a b : ℕ) (row : List ℕ) → a < size_of field → b < size_of field → AreElements field row
    → scale_row field a (scale_row field b row) ≡ scale_row field (product field a b) row
scale_row-scale_row field a b [] below_a below_b h = refl
scale_row-scale_row field a b (x ∷ xs) below_a below_b h =
    rw (
      (kind_field field).mul_assoc a b x below_a below_b (AreElements-head field x xs h),
      scale_row-scale_row field a b xs below_a below_b (AreElements-tail field x xs h),
    ) refl

-- the multiples of a multiple may be taken in either order
pub scale_row-comm : (field : FieldKind) (a b : ℕ) (row : List ℕ) → a < size_of field → b < size_of field → AreElements field row
    → scale_row field a (scale_row field b row) ≡ scale_row field b (scale_row field a row)
scale_row-comm field a b row below_a below_b h =
    scale_row-scale_row field a b row below_a below_b h
    ∙ ap (λ times. scale_row field times row) ((kind_field field).mul_comm a b below_a below_b)
    ∙ sym (scale_row-scale_row field b a row below_b below_a h)

-- a multiple of a sum of rows
pub scale_row-add_rows : (field : FieldKind) (a : ℕ) (xs ys : List ℕ) → a < size_of field → AreElements field xs → AreElements field ys
    → scale_row field a (add_rows xs ys) ≡ add_rows (scale_row field a xs) (scale_row field a ys)
scale_row-add_rows field a [] ys below h k = refl
scale_row-add_rows field a (x ∷ xs) [] below h k = refl
scale_row-add_rows field a (x ∷ xs) (y ∷ ys) below h k =
    rw (
      (kind_field field).mul_add a x y below (AreElements-head field x xs h) (AreElements-head field y ys k),
      scale_row-add_rows field a xs ys below (AreElements-tail field x xs h) (AreElements-tail field y ys k),
    ) refl

-- a sum of elements times a row
pub scale_row-xor : (field : FieldKind) (a b : ℕ) (row : List ℕ) → a < size_of field → b < size_of field → AreElements field row
    → scale_row field (bit_xor a b) row ≡ add_rows (scale_row field a row) (scale_row field b row)
scale_row-xor field a b [] below_a below_b h = refl
scale_row-xor field a b (x ∷ xs) below_a below_b h =
    rw (
      product-xor field a b x below_a below_b (AreElements-head field x xs h),
      scale_row-xor field a b xs below_a below_b (AreElements-tail field x xs h),
    ) refl

-- the row at a place of rows
pub AreRows-get_or : (field : FieldKind) (width i : ℕ) (rows : List (List ℕ)) → i < length rows → AreRows field width rows → IsRow field width (get_or rows i [])
AreRows-get_or field width i [] below h = absurd (omega arith)
AreRows-get_or field width zero (row ∷ rows) below h = h.0
AreRows-get_or field width (suc i) (row ∷ rows) below h = AreRows-get_or field width i rows (omega arith) h.1

-- rows, each of one width and of elements
pub AreRows-from_All : (field : FieldKind) (width : ℕ) (rows : List (List ℕ)) → All (λ row. length row ≡ width) rows → All (AreElements field) rows
    → AreRows field width rows
AreRows-from_All field width [] h k = tt
AreRows-from_All field width (row ∷ rows) h k =
    let long : length row ≡ width = All-head (λ row. length row ≡ width) row rows h in
    let elements : AreElements field row = All-head (AreElements field) row rows k in
    (record { width = long; elements = elements }, AreRows-from_All field width rows (All-tail (λ row. length row ≡ width) row rows h) (All-tail (AreElements field) row rows k))

-- the widths of rows
pub AreRows-widths : (field : FieldKind) (width : ℕ) (rows : List (List ℕ)) → AreRows field width rows → All (λ row. length row ≡ width) rows
AreRows-widths field width [] h = All-nil (λ (row : List ℕ). length row ≡ width)
AreRows-widths field width (row ∷ rows) h = All-cons (λ (row : List ℕ). length row ≡ width) row rows h.0.width (AreRows-widths field width rows h.1)

-- the elements of rows
pub AreRows-elements : (field : FieldKind) (width : ℕ) (rows : List (List ℕ)) → AreRows field width rows → All (AreElements field) rows
AreRows-elements field width [] h = All-nil (AreElements field)
AreRows-elements field width (row ∷ rows) h = All-cons (AreElements field) row rows h.0.elements (AreRows-elements field width rows h.1)

-- rows and then others
pub AreRows-append : (field : FieldKind) (width : ℕ) (rows others : List (List ℕ)) → AreRows field width rows → AreRows field width others → AreRows field width (rows ++ others)
AreRows-append field width [] others h k = k
AreRows-append field width (row ∷ rows) others h k = (h.0, AreRows-append field width rows others h.1 k)

-- multiples of rows by one element
pub AreRows-map-scale_row : (field : FieldKind) (width times : ℕ) (rows : List (List ℕ)) → times < size_of field → AreRows field width rows
    → AreRows field width (map (scale_row field times) rows)
AreRows-map-scale_row field width times [] below h = tt
AreRows-map-scale_row field width times (row ∷ rows) below h = (scale_row-IsRow field width times row below h.0, AreRows-map-scale_row field width times rows below h.1)

-- the first entries of a sum of rows
pub take-add_rows : (n : ℕ) (xs ys : List ℕ) → take n (add_rows xs ys) ≡ add_rows (take n xs) (take n ys)
take-add_rows zero xs ys = refl
take-add_rows (suc n) [] ys = refl
take-add_rows (suc n) (x ∷ xs) [] = refl
take-add_rows (suc n) (x ∷ xs) (y ∷ ys) = ap (λ (row : List ℕ). bit_xor x y ∷ row) (take-add_rows n xs ys)

-- the entries of a sum of rows from a place on
pub drop-add_rows : (n : ℕ) (xs ys : List ℕ) → length xs ≡ length ys → drop n (add_rows xs ys) ≡ add_rows (drop n xs) (drop n ys)
drop-add_rows zero xs ys same = refl
drop-add_rows (suc n) [] ys same = refl
drop-add_rows (suc n) (x ∷ xs) [] same = absurd (omega arith)
drop-add_rows (suc n) (x ∷ xs) (y ∷ ys) same = drop-add_rows n xs ys (omega arith)

-- a sum of rows that each are two in a row, where the first two have one length
pub add_rows-append : (xs ys us vs : List ℕ) → length xs ≡ length us → add_rows (xs ++ ys) (us ++ vs) ≡ add_rows xs us ++ add_rows ys vs
add_rows-append [] ys [] vs same = refl
add_rows-append [] ys (u ∷ us) vs same = absurd (omega arith)
add_rows-append (x ∷ xs) ys [] vs same = absurd (omega arith)
add_rows-append (x ∷ xs) ys (u ∷ us) vs same = ap (λ (row : List ℕ). bit_xor x u ∷ row) (add_rows-append xs ys us vs (omega arith))

-- a multiple of two rows in a row
pub scale_row-append : (field : FieldKind) (times : ℕ) (xs ys : List ℕ) → scale_row field times (xs ++ ys) ≡ scale_row field times xs ++ scale_row field times ys
scale_row-append field times xs ys = map-append (product field times) xs ys

-- an entry of a sum of rows of one length
pub slice_index-add_rows : (xs ys : List ℕ) (j : ℕ) → length xs ≡ length ys → slice_index (add_rows xs ys) j ≡ bit_xor (slice_index xs j) (slice_index ys j)
slice_index-add_rows [] [] j same = refl
slice_index-add_rows [] (y ∷ ys) j same = absurd (omega arith)
slice_index-add_rows (x ∷ xs) [] j same = absurd (omega arith)
slice_index-add_rows (x ∷ xs) (y ∷ ys) zero same = refl
slice_index-add_rows (x ∷ xs) (y ∷ ys) (suc j) same = slice_index-add_rows xs ys j (omega arith)

-- an entry of a multiple of a row
pub slice_index-scale_row : (field : FieldKind) (times : ℕ) (row : List ℕ) (j : ℕ) → times < size_of field → slice_index (scale_row field times row) j ≡ product field times (slice_index row j)
slice_index-scale_row field times [] j below = sym (product-zero field times below)
slice_index-scale_row field times (x ∷ xs) zero below = refl
slice_index-scale_row field times (x ∷ xs) (suc j) below = slice_index-scale_row field times xs j below

-- an entry of the row of zeros
pub slice_index-zero_row : (width j : ℕ) → slice_index (zero_row width) j ≡ 0
slice_index-zero_row zero j = refl
slice_index-zero_row (suc width) zero = refl
slice_index-zero_row (suc width) (suc j) = slice_index-zero_row width j

-- an entry of a unit row
pub slice_index-unit_row : (width i j : ℕ) → j < width → slice_index (unit_row width i) j ≡ (if i == j then 1 else 0)
slice_index-unit_row width i j below = get_or-map-range_with_len (λ k. if i == k then 1 else 0) 0 width j j 0 below (omega arith)

-- 0 and 1 are elements
unit_entry : (field : FieldKind) (b : Bool) → (if b then 1 else 0) < size_of field
unit_entry field b = elim b as (λ b. (if b then 1 else 0) < size_of field) [ true ↦ (kind_field field).one_element | false ↦ (kind_field field).zero_element ]

-- a unit row is a row of elements
pub unit_row-IsRow : (field : FieldKind) (width i : ℕ) → IsRow field width (unit_row width i)
unit_row-IsRow field width i =
    let P : ℕ → Type 0 = λ element. element < size_of field in
    record {
      width = length-map-range_with_len (λ j. if i == j then 1 else 0) 0 width;
      elements = All-map P (λ j. if i == j then 1 else 0) (range_with_len 0 width) (λ k d below. unit_entry field (i == get_or (range_with_len 0 width) k d));
    }

-- the entries of a unit row from a place on are zeros where its place lies before
pub unit_row-before : (i a n : ℕ) → i < a → map (λ j. if i == j then 1 else 0) (range_with_len a n) ≡ zero_row n
unit_row-before i a zero below = refl
unit_row-before i a (suc n) below =
    let no : (i == a) ≡ false = ne_eqb i a (λ e. omega arith) in
    rw (no, unit_row-before i (a + 1) n (omega arith)) refl
