-- Laws of inverses of matrices. One from the left is one from the right too. And rows that are joined are cut into themselves.
use Rattle.std.specs.Prelude.{◌≡◌, ◌<◌, ◌+◌, ◌*◌, ℕ, zero, suc, List, [], ◌∷◌, ◌++◌, All, drop, get_or, length, map, take}
use Rattle.std.specs.Int.Bits.{xor_zero_l, xor_zero_r}
use Rattle.std.specs.List.{concat, remove}
use Rattle.std.proofs.Common.{arith, refl, sym, ap, ◌∙◌, inl, inr, suc-mul}
use Rattle.std.proofs.Math.Path.{ap₂}
use Rattle.std.proofs.lemmas.Bool.{cases_eq}
use Rattle.std.proofs.lemmas.List.{drop-drop, drop_at, ext_get_or, get_or-map, length-append, take_at}
use Rattle.std.proofs.lemmas.List.Edits.{length-remove}
use Rattle.std.proofs.lemmas.List.Elements.{All-append, All-drop, All-from_recursion, All-get_or, All-head, All-nil, All-tail, All-take, recursion_from_All}
use Rattle.std.proofs.lemmas.List.FromFn.{fill_by_all, get_or-map-range_with_len}
use Rattle.cut_bound.proofs.HiddenLaws.{IsHidden-hidden}
use Rattle.cut_bound.specs.Hidden.{IsZeroUnder, hidden}
use Rattle.gf_tables.proofs.KindField.{kind_field}
use Rattle.gf_tables.specs.Product.{product, size_of}
use Rattle.gf_tables.specs.declared.kind.FieldKind.{FieldKind}
use Rattle.linear_algebra.proofs.CombinationLaws.{combination-IsRow, combination-add_rows, dot-combination}
use Rattle.linear_algebra.proofs.DotLaws.{dot-comm, dot-element, dot-unit_row, dot-zero_row_left}
use Rattle.linear_algebra.proofs.FieldLaws.{product-zero}
use Rattle.linear_algebra.proofs.MatrixLaws.{identity-AreRows, identity-times_rows, length-identity, length-times_rows, times_rows-AreRows, times_rows-identity, times_rows-times_rows}
use Rattle.linear_algebra.proofs.RowLaws.{AreElements-head, AreElements-tail, AreRows-get_or, add_rows-IsRow, add_rows-self, add_rows-twice, add_rows-zero_row, slice_index-zero_row, unit_row-IsRow, zero_row-IsRow}
use Rattle.linear_algebra.specs.Matrices.{identity, rows_of, times_rows}
use Rattle.linear_algebra.specs.Rows.{AreElements, AreRows, IsRow, add_rows, combination, dot, unit_row, zero_row}

-- the sum of multiples of what rows give with a row, where each gives zero
zeros_add : (field : FieldKind) (coefficients : List ℕ) (rows : List (List ℕ)) (v : List ℕ) → AreElements field coefficients
    → IsZeroUnder field rows v → dot field coefficients (map (λ row. dot field row v) rows) ≡ 0
zeros_add field [] rows v below zeros = refl
zeros_add field (times ∷ coefficients) [] v below zeros = refl
zeros_add field (times ∷ coefficients) (row ∷ rows) v below zeros =
    rw (
      zeros.0,
      product-zero field times (AreElements-head field times coefficients below),
      zeros_add field coefficients rows v (AreElements-tail field times coefficients below) zeros.1,
    ) refl

-- the same where each but one gives zero
one_adds : (field : FieldKind) (k : ℕ) (coefficients : List ℕ) (rows : List (List ℕ)) (v : List ℕ) → AreElements field coefficients
    → k < length coefficients → k < length rows → IsZeroUnder field (remove rows k) v
    → dot field coefficients (map (λ row. dot field row v) rows) ≡ product field (get_or coefficients k 0) (dot field (get_or rows k []) v)
one_adds field k [] rows v below inside within zeros = absurd (omega arith)
one_adds field k (times ∷ coefficients) [] v below inside within zeros = absurd (omega arith)
one_adds field zero (times ∷ coefficients) (row ∷ rows) v below inside within zeros =
    rw (zeros_add field coefficients rows v (AreElements-tail field times coefficients below) zeros)
    (xor_zero_r (product field times (dot field row v)))
one_adds field (suc k) (times ∷ coefficients) (row ∷ rows) v below inside within zeros =
    let others_below = AreElements-tail field times coefficients below in
    rw (
      zeros.0,
      product-zero field times (AreElements-head field times coefficients below),
      one_adds field k coefficients rows v others_below (omega arith) (omega arith) zeros.1,
    )
    (xor_zero_l (product field (get_or coefficients k 0) (dot field (get_or rows k []) v)))

-- where that one gives zero too, each does
each_zero : (field : FieldKind) (k : ℕ) (rows : List (List ℕ)) (v : List ℕ) → IsZeroUnder field (remove rows k) v
    → dot field (get_or rows k []) v ≡ 0 → IsZeroUnder field rows v
each_zero field k [] v zeros one = tt
each_zero field zero (row ∷ rows) v zeros one = (one, zeros)
each_zero field (suc k) (row ∷ rows) v zeros one = (zeros.0, each_zero field k rows v zeros.1 one)

-- rows without one of them are rows
AreRows-remove : (field : FieldKind) (width k : ℕ) (rows : List (List ℕ)) → AreRows field width rows → AreRows field width (remove rows k)
AreRows-remove field width k rows are =
    let P : List ℕ → Type 0 = IsRow field width in
    let all = All-from_recursion P rows are in
    let others = All-append P (take k rows) (drop (suc k) rows) (All-take P k rows all) (All-drop P (suc k) rows all) in
    recursion_from_All P (remove rows k) others

module _ (field : FieldKind) (size : ℕ) (left matrix : List (List ℕ)) (left_count : length left ≡ size) (count : length matrix ≡ size)
    (left_are : AreRows field size left) (are : AreRows field size matrix)
    (inverse : times_rows field size left matrix ≡ identity size) where
  -- a row that gives zero with each row of the matrix is zeros
  hides_none : (v : List ℕ) → IsRow field size v → IsZeroUnder field matrix v → v ≡ zero_row size
  hides_none v is zeros =
      ext_get_or 0 v (zero_row size) (is.width ∙ sym (zero_row-IsRow field size).width) (λ i inside.
      let below : i < size = omega (arith, is.width) in
      let within : i < length left = omega (arith, left_count) in
      let times = AreRows-get_or field size i left within left_are in
      let unit = unit_row-IsRow field size i in
      let made : combination field size (get_or left i []) matrix ≡ unit_row size i =
      sym (get_or-map (λ coefficients. combination field size coefficients matrix) left i [] [] within)
      ∙ ap (λ (rows : List (List ℕ)). get_or rows i []) inverse
      ∙ get_or-map-range_with_len (unit_row size) 0 size i i [] below (omega arith) in
      sym (dot-unit_row field size i v below is)
      ∙ dot-comm field v (unit_row size i) is.elements unit.elements
      ∙ ap (λ (row : List ℕ). dot field row v) (sym made)
      ∙ dot-combination field size (get_or left i []) matrix v times.elements are is
      ∙ zeros_add field (get_or left i []) matrix v times.elements zeros
      ∙ sym (slice_index-zero_row size i))

  -- coefficients of which the matrix's rows make zeros are zeros: all rows but one hide a row that isn't zeros, and that one would hide it
  -- too if its coefficient weren't zero
  adds_none : (row : List ℕ) → IsRow field size row → combination field size row matrix ≡ zero_row size → row ≡ zero_row size
  adds_none row is none =
      ext_get_or 0 row (zero_row size) (is.width ∙ sym (zero_row-IsRow field size).width) (λ k inside. elim (cases_eq (get_or row k 0) 0) [
        | inl same ↦ same ∙ sym (slice_index-zero_row size k)
        | inr other ↦
            let within : k < length matrix = omega (arith, is.width, count) in
            let fewer : length (remove matrix k) < size = omega (arith, length-remove matrix k within, count) in
            let found = IsHidden-hidden field size (remove matrix k) fewer (AreRows-remove field size k matrix are) in
            let v = hidden field size (remove matrix k) in
            let at = AreRows-get_or field size k matrix within are in
            let gives = dot field (get_or matrix k []) v in
            let below = All-get_or (λ element. element < size_of field) row k 0 inside is.elements in
            let all : product field (get_or row k 0) gives ≡ 0 =
            sym (one_adds field k row matrix v is.elements inside within found.products)
            ∙ sym (dot-combination field size row matrix v is.elements are found.elements)
            ∙ ap (λ (zeros : List ℕ). dot field zeros v) none
            ∙ dot-zero_row_left field size v in
            let one : gives ≡ 0 = elim (cases_eq gives 0) [
              | inl nothing ↦ nothing
              | inr something ↦
                  let gives_below = dot-element field (get_or matrix k []) v at.elements found.elements.elements in
                  absurd ((kind_field field).mul_nonzero (get_or row k 0) gives below gives_below other something all)
            ] in
            absurd (found.nonzero (hides_none v found.elements (each_zero field k matrix v found.products one)))
      ])

  -- coefficients of which the matrix's rows make the same are the same
  same_coefficients : (xs ys : List ℕ) → IsRow field size xs → IsRow field size ys
      → combination field size xs matrix ≡ combination field size ys matrix → xs ≡ ys
  same_coefficients xs ys is other same =
      let long : length xs ≡ length ys = is.width ∙ sym other.width in
      let made = combination-IsRow field size ys matrix other.elements are in
      let none : combination field size (add_rows xs ys) matrix ≡ zero_row size =
      combination-add_rows field size xs ys matrix is.elements other.elements long are
      ∙ ap (λ (row : List ℕ). add_rows row (combination field size ys matrix)) same
      ∙ add_rows-self (combination field size ys matrix) ∙ ap zero_row made.width in
      let zeros = adds_none (add_rows xs ys) (add_rows-IsRow field size xs ys is other) none in
      sym (sym (add_rows-twice xs ys long) ∙ ap (add_rows xs) (zeros ∙ ap zero_row (sym is.width)) ∙ add_rows-zero_row xs)

  -- matrices whose products with the matrix are the same are the same
  same_matrices : (some others : List (List ℕ)) → AreRows field size some → AreRows field size others → length some ≡ length others
      → times_rows field size some matrix ≡ times_rows field size others matrix → some ≡ others
  same_matrices [] [] some_are others_are long same = refl
  same_matrices [] (other ∷ others) some_are others_are long same = absurd (omega arith)
  same_matrices (one ∷ some) [] some_are others_are long same = absurd (omega arith)
  same_matrices (one ∷ some) (other ∷ others) some_are others_are long same =
      let first : combination field size one matrix ≡ combination field size other matrix = cc in
      let rest : times_rows field size some matrix ≡ times_rows field size others matrix = cc in
      ap₂ ◌∷◌ (same_coefficients one other some_are.0 others_are.0 first)
      (same_matrices some others some_are.1 others_are.1 (omega arith) rest)

  -- a matrix that has an inverse from the left has it from the right
  pub left_inverse-right : times_rows field size matrix left ≡ identity size
  left_inverse-right =
      let product = times_rows field size matrix left in
      same_matrices product (identity size)
      (times_rows-AreRows field size size matrix left are left_are) (identity-AreRows field size)
      (length-times_rows field size matrix left ∙ count ∙ sym (length-identity size))
      (sym (times_rows-times_rows field size size size matrix left matrix are left_are are)
      ∙ ap (times_rows field size matrix) inverse
      ∙ times_rows-identity field size matrix are
      ∙ sym (identity-times_rows field size size matrix count are))

-- the length of rows of one width, joined
pub length-concat : (width : ℕ) (rows : List (List ℕ)) → All (λ row. length row ≡ width) rows → length (concat rows) ≡ length rows * width
length-concat width [] wide = omega arith
length-concat width (row ∷ rows) wide =
    let P : List ℕ → Type 0 = λ row. length row ≡ width in
    let long : length row ≡ width = All-head P row rows wide in
    let rest = length-concat width rows (All-tail P row rows wide) in
    omega (arith, length-append row (concat rows), long, rest, suc-mul (length rows) width)

-- rows of elements, joined, are elements
pub concat-elements : (field : FieldKind) (rows : List (List ℕ)) → All (AreElements field) rows → AreElements field (concat rows)
concat-elements field [] are = All-nil (λ element. element < size_of field)
concat-elements field (row ∷ rows) are =
    All-append (λ element. element < size_of field) row (concat rows) (All-head (AreElements field) row rows are)
    (concat-elements field rows (All-tail (AreElements field) row rows are))

-- a row of rows that are joined
row_of_joined : (width k : ℕ) (rows : List (List ℕ)) → All (λ row. length row ≡ width) rows → k < length rows
    → get_or rows k [] ≡ take width (drop (k * width) (concat rows))
row_of_joined width k [] wide within = absurd (omega arith)
row_of_joined width zero (row ∷ rows) wide within =
    let none : 0 * width ≡ 0 = omega arith in
    rw none (sym (take_at row (concat rows) width (All-head (λ row. length row ≡ width) row rows wide)))
row_of_joined width (suc k) (row ∷ rows) wide within =
    let P : List ℕ → Type 0 = λ row. length row ≡ width in
    let next : suc k * width ≡ width + k * width = omega (arith, suc-mul k width) in
    row_of_joined width k rows (All-tail P row rows wide) (omega arith)
    ∙ ap (λ (rest : List ℕ). take width (drop (k * width) rest)) (sym (drop_at row (concat rows) width (All-head P row rows wide)))
    ∙ ap (take width) (drop-drop (k * width) width (row ++ concat rows))
    ∙ ap (λ place. take width (drop place (row ++ concat rows))) (sym next)

-- rows of one width, joined and cut again
pub rows_of-concat : (count width : ℕ) (rows : List (List ℕ)) → length rows ≡ count → All (λ row. length row ≡ width) rows
    → rows_of count width (concat rows) ≡ rows
rows_of-concat count width rows same wide =
    let row = λ (k : ℕ). take width (drop (k * width) (concat rows)) in
    sym (fill_by_all row rows count [] same (λ k below. row_of_joined width k rows wide (omega (arith, same))))
