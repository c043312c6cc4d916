-- Laws of the sum of the products of two rows, place by place. It is symmetric, and linear in its first row.
use Rattle.std.specs.Prelude.{◌≡◌, ℕ, zero, suc, ◌+◌, ◌<◌, ◌==◌, true, false, bit_xor, List, [], ◌∷◌, length, map, slice_index, if◌then◌else◌}
use Rattle.std.proofs.Common.{arith, refl, sym, ◌∙◌}
use borrow.Author.Tests.{eq-eqb}
use Rattle.std.proofs.lemmas.Bool.{ne_eqb}
use Rattle.std.specs.Int.Bits.{xor_zero_l, xor_zero_r}
use Rattle.std.specs.List.{range_with_len}
use Rattle.gf_tables.proofs.KindField.{kind_field, product_zero}
use Rattle.gf_tables.specs.Product.{product, size_of}
use Rattle.gf_tables.specs.ShiftLaws.{xor_interchange}
use Rattle.gf_tables.specs.declared.kind.FieldKind.{FieldKind}
use Rattle.linear_algebra.proofs.FieldLaws.{product-zero, product-xor}
use Rattle.linear_algebra.proofs.RowLaws.{AreElements-head, AreElements-tail, unit_row-before}
use Rattle.linear_algebra.specs.Rows.{add_rows, scale_row, zero_row, unit_row, dot, AreElements, IsRow}

-- the product of rows of elements is an element
pub dot-element : (field : FieldKind) (xs ys : List ℕ) → AreElements field xs → AreElements field ys → dot field xs ys < size_of field
dot-element field [] ys h k = (kind_field field).zero_element
dot-element field (x ∷ xs) [] h k = (kind_field field).zero_element
dot-element field (x ∷ xs) (y ∷ ys) h k =
    (kind_field field).add_element (product field x y) (dot field xs ys)
    ((kind_field field).mul_element x y (AreElements-head field x xs h) (AreElements-head field y ys k))
    (dot-element field xs ys (AreElements-tail field x xs h) (AreElements-tail field y ys k))

-- the rows may change places
pub dot-comm : (field : FieldKind) (xs ys : List ℕ) → AreElements field xs → AreElements field ys → dot field xs ys ≡ dot field ys xs
dot-comm field [] [] h k = refl
dot-comm field [] (y ∷ ys) h k = refl
dot-comm field (x ∷ xs) [] h k = refl
dot-comm field (x ∷ xs) (y ∷ ys) h k =
    rw (
      (kind_field field).mul_comm x y (AreElements-head field x xs h) (AreElements-head field y ys k),
      dot-comm field xs ys (AreElements-tail field x xs h) (AreElements-tail field y ys k),
    ) refl

-- the row of zeros times a row
pub dot-zero_row_left : (field : FieldKind) (width : ℕ) (ys : List ℕ) → dot field (zero_row width) ys ≡ 0
dot-zero_row_left field zero ys = refl
dot-zero_row_left field (suc width) [] = refl
dot-zero_row_left field (suc width) (y ∷ ys) = rw (product_zero field y, dot-zero_row_left field width ys) refl

-- a row of elements times the row of zeros
pub dot-zero_row : (field : FieldKind) (width : ℕ) (xs : List ℕ) → AreElements field xs → dot field xs (zero_row width) ≡ 0
dot-zero_row field width [] h = refl
dot-zero_row field zero (x ∷ xs) h = refl
dot-zero_row field (suc width) (x ∷ xs) h =
    rw (product-zero field x (AreElements-head field x xs h), dot-zero_row field width xs (AreElements-tail field x xs h)) refl

-- a multiple of a row times a row
pub dot-scale_row_left : (field : FieldKind) (a : ℕ) (xs ys : List ℕ) → a < size_of field → AreElements field xs → AreElements field ys
    → dot field (scale_row field a xs) ys ≡ product field a (dot field xs ys)
dot-scale_row_left field a [] ys below h k = sym (product-zero field a below)
dot-scale_row_left field a (x ∷ xs) [] below h k = sym (product-zero field a below)
dot-scale_row_left field a (x ∷ xs) (y ∷ ys) below h k =
    let laws = kind_field field in
    let below_x = AreElements-head field x xs h in
    let below_y = AreElements-head field y ys k in
    let rest_x = AreElements-tail field x xs h in
    let rest_y = AreElements-tail field y ys k in
    rw (laws.mul_assoc a x y below below_x below_y, dot-scale_row_left field a xs ys below rest_x rest_y)
    (sym (laws.mul_add a (product field x y) (dot field xs ys) below (laws.mul_element x y below_x below_y) (dot-element field xs ys rest_x rest_y)))

-- a sum of rows times a row
pub dot-add_rows_left : (field : FieldKind) (xs ys zs : List ℕ) → AreElements field xs → AreElements field ys → AreElements field zs → length xs ≡ length ys
    → dot field (add_rows xs ys) zs ≡ bit_xor (dot field xs zs) (dot field ys zs)
dot-add_rows_left field [] [] zs h k l same = refl
dot-add_rows_left field [] (y ∷ ys) zs h k l same = absurd (omega arith)
dot-add_rows_left field (x ∷ xs) [] zs h k l same = absurd (omega arith)
dot-add_rows_left field (x ∷ xs) (y ∷ ys) [] h k l same = refl
dot-add_rows_left field (x ∷ xs) (y ∷ ys) (z ∷ zs) h k l same =
    rw (
      product-xor field x y z (AreElements-head field x xs h) (AreElements-head field y ys k) (AreElements-head field z zs l),
      dot-add_rows_left field xs ys zs (AreElements-tail field x xs h) (AreElements-tail field y ys k) (AreElements-tail field z zs l) (omega arith),
    )
    (xor_interchange (product field x z) (product field y z) (dot field xs zs) (dot field ys zs))

-- a row times the row with 1 at one place and zeros elsewhere, from a place on
dot-unit_row_from : (field : FieldKind) (a i k : ℕ) (xs : List ℕ) → a + k ≡ i → k < length xs → AreElements field xs
    → dot field xs (map (λ j. if i == j then 1 else 0) (range_with_len a (length xs))) ≡ slice_index xs k
dot-unit_row_from field a i k [] at below h = absurd (omega arith)
dot-unit_row_from field a i zero (x ∷ xs) at below h =
    let laws = kind_field field in
    let below_x = AreElements-head field x xs h in
    let yes : (i == a) ≡ true = eq-eqb i a (omega arith) in
    rw (
      yes,
      laws.mul_comm x 1 below_x laws.one_element,
      laws.one_mul x below_x,
      unit_row-before i (a + 1) (length xs) (omega arith),
      dot-zero_row field (length xs) xs (AreElements-tail field x xs h),
    ) (xor_zero_r x)
dot-unit_row_from field a i (suc k) (x ∷ xs) at below h =
    let no : (i == a) ≡ false = ne_eqb i a (λ e. omega arith) in
    rw (no, product-zero field x (AreElements-head field x xs h))
    (xor_zero_l (dot field xs (map (λ j. if i == j then 1 else 0) (range_with_len (a + 1) (length xs))))
    ∙ dot-unit_row_from field (a + 1) i k xs (omega arith) (omega arith) (AreElements-tail field x xs h))

-- a row times a unit row is the entry there
pub dot-unit_row : (field : FieldKind) (width j : ℕ) (row : List ℕ) → j < width → IsRow field width row → dot field row (unit_row width j) ≡ slice_index row j
dot-unit_row field width j row below h =
    let inside : j < length row = omega (arith, h.width) in
    rw (← h.width) (dot-unit_row_from field 0 j j row (omega arith) inside h.elements)
