-- Laws of hidden rows. Fewer rows than they have elements hide one.
use Rattle.std.specs.Prelude.{◌≡◌, ◌≢◌, ℕ, zero, suc, ◌<◌, ◌+◌, bit_xor, List, [], ◌∷◌, ◌++◌, length, map}
use Rattle.std.specs.List.{AllByRecursion}
use Rattle.std.proofs.Common.{arith, refl, sym, ap, ◌∙◌}
use Rattle.std.proofs.lemmas.List.{length-append, length-map}
use Rattle.std.proofs.lemmas.Nat.{xor_comm}
use Rattle.std.specs.Int.Bits.{xor_zero_l}
use Rattle.gf_tables.proofs.KindField.{kind_field, product_zero}
use Rattle.gf_tables.specs.Inverse.{inverse}
use Rattle.gf_tables.specs.Product.{product, size_of}
use Rattle.gf_tables.specs.declared.kind.FieldKind.{FieldKind}
use Rattle.linear_algebra.proofs.DotLaws.{dot-element, dot-zero_row, dot-add_rows_left, dot-scale_row_left}
use Rattle.linear_algebra.proofs.RowLaws.{AreElements-head, AreElements-tail, AreElements-cons, zero_row-IsRow, add_rows-IsRow, scale_row-IsRow, AreRows-append}
use Rattle.linear_algebra.specs.Rows.{scale_row, zero_row, dot, IsRow, AreRows}
use Rattle.cut_bound.specs.Hidden.{cleared, hidden_behind, hidden, IsZeroUnder, IsHidden}

-- an element before a row
IsRow-cons : (field : FieldKind) (count x : ℕ) (xs : List ℕ) → x < size_of field → IsRow field count xs → IsRow field (suc count) (x ∷ xs)
IsRow-cons field count x xs below is = record {
  width = ap suc is.width;
  elements = AreElements-cons field x xs below is.elements;
}

-- a row without its first element
IsRow-rest : (field : FieldKind) (count x : ℕ) (xs : List ℕ) → IsRow field (suc count) (x ∷ xs) → IsRow field count xs
IsRow-rest field count x xs is = record {
  width = let long : length (x ∷ xs) ≡ suc count = is.width in omega arith;
  elements = AreElements-tail field x xs is.elements;
}

-- a row that is zero under rows and others
parts : (field : FieldKind) (rows others : List (List ℕ)) (row : List ℕ) → IsZeroUnder field (rows ++ others) row
    → IsZeroUnder field rows row × IsZeroUnder field others row
parts field [] others row h = (tt, h)
parts field (first ∷ rows) others row h = let rest = parts field rows others row h.1 in ((h.0, rest.0), rest.1)

module _ (field : FieldKind) (count first : ℕ) (rest : List ℕ) (is : IsRow field (suc count) (first ∷ rest)) (some : first ≢ 0) where
  below : first < size_of field
  below = AreElements-head field first rest is.elements

  inverse_below : inverse field first < size_of field
  inverse_below = (kind_field field).inv_element first below some

  IsRow-rest_here : IsRow field count rest
  IsRow-rest_here = IsRow-rest field count first rest is

  -- a cleared row
  IsRow-cleared : (row : List ℕ) → IsRow field (suc count) row → IsRow field count (cleared field first rest row)
  IsRow-cleared [] row_is = absurd (omega (arith, row_is.width))
  IsRow-cleared (x ∷ xs) row_is =
      add_rows-IsRow field count xs (scale_row field (product field x (inverse field first)) rest) (IsRow-rest field count x xs row_is)
      (scale_row-IsRow field count (product field x (inverse field first)) rest
      ((kind_field field).mul_element x (inverse field first) (AreElements-head field x xs row_is.elements) inverse_below) IsRow-rest_here)

  -- cleared rows
  AreRows-cleared : (rows : List (List ℕ)) → AreRows field (suc count) rows → AreRows field count (map (cleared field first rest) rows)
  AreRows-cleared [] are = tt
  AreRows-cleared (row ∷ rows) are = (IsRow-cleared row are.0, AreRows-cleared rows are.1)

  module _ (found : List ℕ) (found_is : IsRow field count found) where
    -- the first element that goes with the others
    abbrev head : ℕ
    head = product field (inverse field first) (dot field rest found)

    dot_below : dot field rest found < size_of field
    dot_below = dot-element field rest found IsRow-rest_here.elements found_is.elements

    head_below : head < size_of field
    head_below = (kind_field field).mul_element (inverse field first) (dot field rest found) inverse_below dot_below

    -- the row that gives the first element is zero
    pivot_zero : dot field (first ∷ rest) (head ∷ found) ≡ 0
    pivot_zero =
        let laws = kind_field field in
        let times : product field first head ≡ dot field rest found =
        sym (laws.mul_assoc first (inverse field first) (dot field rest found) below inverse_below dot_below)
        ∙ ap (λ a. product field a (dot field rest found)) (laws.mul_inv first below some)
        ∙ laws.one_mul (dot field rest found) dot_below in
        ap (λ a. bit_xor a (dot field rest found)) times ∙ laws.add_self (dot field rest found) dot_below

    -- so is a row whose cleared row is
    cleared_zero : (row : List ℕ) → IsRow field (suc count) row → dot field (cleared field first rest row) found ≡ 0 → dot field row (head ∷ found) ≡ 0
    cleared_zero [] row_is zero_of = refl
    cleared_zero (x ∷ xs) row_is zero_of =
        let laws = kind_field field in
        let x_below = AreElements-head field x xs row_is.elements in
        let rest_is = IsRow-rest field count x xs row_is in
        let times = product field x (inverse field first) in
        let times_below : times < size_of field = laws.mul_element x (inverse field first) x_below inverse_below in
        let scaled_is = scale_row-IsRow field count times rest times_below IsRow-rest_here in
        ap (λ a. bit_xor a (dot field xs found)) (
        sym (laws.mul_assoc x (inverse field first) (dot field rest found) x_below inverse_below dot_below)
        ∙ sym (dot-scale_row_left field times rest found times_below IsRow-rest_here.elements found_is.elements))
        ∙ xor_comm (dot field (scale_row field times rest) found) (dot field xs found)
        ∙ sym (dot-add_rows_left field xs (scale_row field times rest) found rest_is.elements scaled_is.elements found_is.elements (rest_is.width ∙ sym scaled_is.width))
        ∙ zero_of

    -- and so are all of them
    all_zero : (rows : List (List ℕ)) → AreRows field (suc count) rows → IsZeroUnder field (map (cleared field first rest) rows) found → IsZeroUnder field rows (head ∷ found)
    all_zero [] are zeros = tt
    all_zero (row ∷ rows) are zeros = (cleared_zero row are.0 zeros.0, all_zero rows are.1 zeros.1)

-- rows behind a zero are zero where they are
passed_zero : (field : FieldKind) (passed : List (List ℕ)) (first : ℕ) (found : List ℕ) → IsZeroUnder field passed found
    → AllByRecursion (λ rest. dot field (0 ∷ rest) (first ∷ found) ≡ 0) passed
passed_zero field [] first found zeros = tt
passed_zero field (rest ∷ passed) first found zeros =
    (ap (λ a. bit_xor a (dot field rest found)) (product_zero field first) ∙ xor_zero_l (dot field rest found) ∙ zeros.0, passed_zero field passed first found zeros.1)

-- the unit row is hidden where no row has a first element
unit_zero : (field : FieldKind) (count : ℕ) (passed : List (List ℕ)) → AreRows field count passed
    → IsZeroUnder field passed (zero_row count)
unit_zero field count [] are = tt
unit_zero field count (rest ∷ passed) are = (dot-zero_row field count rest are.0.elements, unit_zero field count passed are.1)

-- hidden from rows and from those before them
record IsHiddenBehind (field : FieldKind) (count : ℕ) (passed rows : List (List ℕ)) (row : List ℕ) : Type 0 where
  elements : IsRow field (suc count) row
  nonzero : ¬ (row ≡ zero_row (suc count))
  passed_products : AllByRecursion (λ rest. dot field (0 ∷ rest) row ≡ 0) passed
  products : IsZeroUnder field rows row

module _ (field : FieldKind) (count : ℕ) (others : List (List ℕ) → List ℕ)
    (hides : (rows : List (List ℕ)) → length rows < count → AreRows field count rows → IsHidden field count rows (others rows)) where
  IsHiddenBehind-hidden_behind : (passed rows : List (List ℕ)) → AreRows field count passed → AreRows field (suc count) rows → length passed + length rows < suc count
      → IsHiddenBehind field count passed rows (hidden_behind field count others passed rows)
  unfolding hidden_behind
  IsHiddenBehind-hidden_behind passed [] passed_are are few =
      record {
        elements = IsRow-cons field count 1 (zero_row count) (kind_field field).one_element (zero_row-IsRow field count);
        nonzero = λ (same : (1 ∷ zero_row count) ≡ (0 ∷ zero_row count)). cc;
        passed_products = passed_zero field passed 1 (zero_row count) (unit_zero field count passed passed_are);
        products = tt;
      }
  IsHiddenBehind-hidden_behind passed ([] ∷ rows) passed_are are few = absurd (omega (arith, are.0.width))
  IsHiddenBehind-hidden_behind passed ((zero ∷ rest) ∷ rows) passed_are are few =
      let later = IsHiddenBehind-hidden_behind (rest ∷ passed) rows (IsRow-rest field count 0 rest are.0, passed_are) are.1 (omega arith) in
      record {
        elements = later.elements;
        nonzero = later.nonzero;
        passed_products = later.passed_products.1;
        products = (later.passed_products.0, later.products);
      }
  IsHiddenBehind-hidden_behind passed ((suc x ∷ rest) ∷ rows) passed_are are few =
      let some : suc x ≢ 0 = λ e. omega arith in
      let cleared_rows = map (cleared field (suc x) rest) rows in
      let found = others (passed ++ cleared_rows) in
      let fewer : length (passed ++ cleared_rows) < count = omega (arith, length-append passed cleared_rows, length-map rows (cleared field (suc x) rest)) in
      let is = hides (passed ++ cleared_rows) fewer
      (AreRows-append field count passed cleared_rows passed_are (AreRows-cleared field count (suc x) rest are.0 some rows are.1)) in
      let zeros = parts field passed cleared_rows found is.products in
      record {
        elements = IsRow-cons field count (head field count (suc x) rest are.0 some found is.elements) found (head_below field count (suc x) rest are.0 some found is.elements) is.elements;
        nonzero = λ same. is.nonzero (cc);
        passed_products = passed_zero field passed (head field count (suc x) rest are.0 some found is.elements) found zeros.0;
        products = (pivot_zero field count (suc x) rest are.0 some found is.elements, all_zero field count (suc x) rest are.0 some found is.elements rows are.1 zeros.1);
      }

-- fewer rows than they have elements hide a row
pub IsHidden-hidden : (field : FieldKind) (count : ℕ) (rows : List (List ℕ)) → length rows < count → AreRows field count rows
    → IsHidden field count rows (hidden field count rows)
unfolding hidden
IsHidden-hidden field zero rows few are = absurd (omega arith)
IsHidden-hidden field (suc count) rows few are =
    let is = IsHiddenBehind-hidden_behind field count (hidden field count) (IsHidden-hidden field count) [] rows tt are (omega arith) in
    record { elements = is.elements; nonzero = is.nonzero; products = is.products }
