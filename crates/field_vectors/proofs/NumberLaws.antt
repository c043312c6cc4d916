-- Rows and matrices of a field's elements, by the numbers of the elements in the field of its kind.
use Rattle.std.specs.Prelude.{◌≡◌, ℕ, zero, suc, ◌+◌, ◌<◌, ◌==◌, List, [], ◌∷◌, All, true, false, length, map, replicate, get_or, bit_xor, slice_set, if◌then◌else◌}
use Rattle.std.proofs.Common.{arith, refl, sym, ap, ◌∙◌}
use Rattle.std.proofs.Math.Path.{ap₂}
use Rattle.std.specs.Int.Bits.{xor_zero_r}
use Rattle.std.specs.List.{range_with_len}
use Rattle.std.proofs.lemmas.Bool.{eq-eqb, ne_eqb}
use Rattle.std.proofs.lemmas.List.{length-map, ext_get_or}
use Rattle.std.proofs.lemmas.List.Elements.{All-head, All-tail}
use Rattle.std.proofs.lemmas.List.FromFn.{length-map-range_with_len, get_or-map-range_with_len}
use Rattle.gf_tables.specs.Field.{IsField, IsNumbering}
use Rattle.gf_tables.specs.Kind.{IsOfKind}
use Rattle.gf_tables.proofs.KindField.{kind_field}
use Rattle.gf_tables.specs.Product.{product as kind_product, size_of}
use Rattle.gf_tables.specs.declared.kind.FieldKind.{FieldKind}
use Rattle.linear_algebra.proofs.CombinationLaws.{length-combination, slice_index-combination}
use Rattle.linear_algebra.specs.Elements.{numbers}
use Rattle.linear_algebra.proofs.FieldLaws.{product-zero}
use Rattle.linear_algebra.specs.Matrices.{column, times_rows, identity}
use Rattle.linear_algebra.proofs.RowLaws.{AreElements-nil, AreElements-cons, add_rows-zero_row, scale_row-zero_row, unit_row-before}
use Rattle.linear_algebra.specs.Rows.{add_rows, scale_row, unit_row, zero_row, combination, dot, AreElements, IsRow, AreRows}
use Rattle.field_vectors.specs.Difference.{identity_entry}
use Rattle.field_vectors.proofs.DotOfLaws.{dot_of-element}
use Rattle.field_vectors.specs.Elements.{dot_of, plus_multiple, multiple_of, column_of, row_product, product_of, unit_of, identity_of}
use Rattle.field_vectors.specs.Grid.{Grid, IsMatrix}
use Rattle.field_vectors.proofs.InverseLaws.{column_of-elements}

-- the numbers of zeros
pub numbers-zeros : {A : Type 0} (number : A → ℕ) (nought : A) → number nought ≡ 0 → (width : ℕ) → numbers number (replicate width nought) ≡ zero_row width
numbers-zeros number nought nothing zero = refl
numbers-zeros number nought nothing (suc width) = rw (nothing, numbers-zeros number nought nothing width) refl

-- an element times 1
product-one : (kind : FieldKind) (n : ℕ) → n < size_of kind → kind_product kind n 1 ≡ n
product-one kind n below =
    let laws = kind_field kind in
    laws.mul_comm n 1 below laws.one_element ∙ laws.one_mul n below

module _ {A : Type 0} {P : A → Type 0} {nought one : A} {add mul : A → A → A} {inv : A → A} (F : IsField P nought one add mul inv)
    {number : A → ℕ} {of_number : ℕ → A} {size : ℕ} {product : ℕ → ℕ → ℕ} (N : IsNumbering P nought one add mul number of_number size product)
    (kind : FieldKind) {bytes mark : ℕ} (K : IsOfKind kind size bytes mark product) where
  -- the number of an element is that of an element of the kind
  pub number-below : (x : A) → P x → number x < size_of kind
  number-below x p = let below = N.number_below x p in omega (arith, K.size)

  -- the number of a product
  pub number-mul : (x y : A) → P x → P y → number (mul x y) ≡ kind_product kind (number x) (number y)
  number-mul x y p q = N.number_mul x y p q ∙ K.product_at (number x) (number y) (N.number_below x p) (N.number_below y q)

  -- the numbers of a row of elements
  pub numbers-AreElements : (xs : List A) → All P xs → AreElements kind (numbers number xs)
  numbers-AreElements [] h = AreElements-nil kind
  numbers-AreElements (x ∷ xs) h =
      AreElements-cons kind (number x) (numbers number xs) (number-below x (All-head P x xs h)) (numbers-AreElements xs (All-tail P x xs h))

  -- and how many there are
  pub numbers-IsRow : (width : ℕ) (xs : List A) → length xs ≡ width → All P xs → IsRow kind width (numbers number xs)
  numbers-IsRow width xs same h = record { width = length-map xs number ∙ same; elements = numbers-AreElements xs h }

  -- the numbers of rows of one width
  pub numbers-AreRows : (width : ℕ) (rows : List (List A)) → All (λ row. length row ≡ width) rows → All (All P) rows → AreRows kind width (map (numbers number) rows)
  numbers-AreRows width [] h k = tt
  numbers-AreRows width (row ∷ rows) h k = (
    numbers-IsRow width row (All-head (λ (r : List A). length r ≡ width) row rows h) (All-head (All P) row rows k),
    numbers-AreRows width rows (All-tail (λ (r : List A). length r ≡ width) row rows h) (All-tail (All P) row rows k),
  )

  -- the numbers of a matrix
  pub numbers-matrix : (m : Grid A) → IsMatrix P m → AreRows kind m.columns (map (numbers number) m.rows)
  numbers-matrix m h = numbers-AreRows m.columns m.rows h.widths h.elements

  -- the number of the product of two rows
  pub number-dot_of : (xs ys : List A) → All P xs → All P ys → number (dot_of nought add mul xs ys) ≡ dot kind (numbers number xs) (numbers number ys)
  number-dot_of [] ys h k = N.number_zero
  number-dot_of (x ∷ xs) [] h k = N.number_zero
  number-dot_of (x ∷ xs) (y ∷ ys) h k =
      let p = All-head P x xs h in
      let q = All-head P y ys k in
      let h' = All-tail P x xs h in
      let k' = All-tail P y ys k in
      N.number_add (mul x y) (dot_of nought add mul xs ys) (F.mul_element x y p q) (dot_of-element F xs ys h' k')
      ∙ ap₂ bit_xor (number-mul x y p q) (number-dot_of xs ys h' k')

  -- the numbers of a row plus a multiple of another
  pub numbers-plus_multiple : (row : List A) (by : A) (other : List A) → All P row → P by → All P other
      → numbers number (plus_multiple add mul row by other) ≡ add_rows (numbers number row) (scale_row kind (number by) (numbers number other))
  numbers-plus_multiple [] by other h b k = refl
  numbers-plus_multiple (x ∷ row) by [] h b k = refl
  numbers-plus_multiple (x ∷ row) by (y ∷ other) h b k =
      let p = All-head P x row h in
      let q = All-head P y other k in
      ap₂ (λ (n l : _). n ∷ l) (N.number_add x (mul by y) p (F.mul_element by y b q) ∙ ap (bit_xor (number x)) (number-mul by y b q))
      (numbers-plus_multiple row by other (All-tail P x row h) b (All-tail P y other k))

  -- the numbers of a multiple of a row
  pub numbers-multiple_of : (by : A) (row : List A) → P by → All P row → numbers number (multiple_of mul by row) ≡ scale_row kind (number by) (numbers number row)
  numbers-multiple_of by [] b h = refl
  numbers-multiple_of by (x ∷ row) b h = ap₂ (λ (n l : _). n ∷ l) (number-mul by x b (All-head P x row h)) (numbers-multiple_of by row b (All-tail P x row h))

  -- the number at a place of a row
  pub get_or-numbers : (row : List A) (j : ℕ) → get_or (numbers number row) j 0 ≡ number (get_or row j nought)
  get_or-numbers [] j = sym N.number_zero
  get_or-numbers (x ∷ row) zero = refl
  get_or-numbers (x ∷ row) (suc j) = get_or-numbers row j

  -- the numbers of a column
  pub numbers-column_of : (rows : List (List A)) (j : ℕ) → numbers number (column_of nought j rows) ≡ column j (map (numbers number) rows)
  numbers-column_of [] j = refl
  numbers-column_of (row ∷ rows) j = ap₂ (λ (n l : _). n ∷ l) (sym (get_or-numbers row j)) (numbers-column_of rows j)

  -- the numbers of a row of a product
  numbers-row_product : (width : ℕ) (rows : List (List A)) (row : List A) → All (λ r. length r ≡ width) rows → All (All P) rows → All P row
      → numbers number (row_product nought add mul width rows row) ≡ combination kind width (numbers number row) (map (numbers number) rows)
  numbers-row_product width rows row wide elements h =
      let f = λ (j : ℕ). dot_of nought add mul row (column_of nought j rows) in
      let made = map f (range_with_len 0 width) in
      let shown = map (numbers number) rows in
      let k = numbers-AreRows width rows wide elements in
      let e = numbers-AreElements row h in
      let long : length (numbers number made) ≡ width = length-map made number ∙ length-map-range_with_len f 0 width in
      let whole : IsMatrix P (record { columns = width; rows = rows }) = record { widths = wide; elements = elements } in
      ext_get_or 0 (numbers number made) (combination kind width (numbers number row) shown) (long ∙ sym (length-combination kind width (numbers number row) shown k))
      (λ j inside.
      let below : j < width = omega (arith, long) in
      let q = column_of-elements nought (record { columns = width; rows = rows }) j whole below in
      get_or-numbers made j ∙ ap number (get_or-map-range_with_len f 0 width j j nought below (omega arith))
      ∙ number-dot_of row (column_of nought j rows) h q ∙ ap (dot kind (numbers number row)) (numbers-column_of rows j)
      ∙ sym (slice_index-combination kind width (numbers number row) shown j e k))

  -- the numbers of a product of matrices
  pub numbers-product_of : (width : ℕ) (matrix rows : List (List A)) → All (All P) matrix → All (λ row. length row ≡ width) rows → All (All P) rows
      → map (numbers number) (product_of nought add mul width matrix rows) ≡ times_rows kind width (map (numbers number) matrix) (map (numbers number) rows)
  numbers-product_of width [] rows h wide elements = refl
  numbers-product_of width (row ∷ matrix) rows h wide elements =
      ap₂ (λ (n l : _). n ∷ l) (numbers-row_product width rows row wide elements (All-head (All P) row matrix h))
      (numbers-product_of width matrix rows (All-tail (All P) row matrix h) wide elements)

  -- the number of an entry of the identity
  number-entry : (i j : ℕ) → number (identity_entry nought one i j) ≡ (if i == j then 1 else 0)
  number-entry i j = elim (i == j) as (λ b. number (if b then one else nought) ≡ (if b then 1 else 0)) [ true ↦ N.number_one | false ↦ N.number_zero ]

  -- the numbers of a unit row, from a place on
  numbers-unit_from : (i a n : ℕ) → numbers number (map (identity_entry nought one i) (range_with_len a n)) ≡ map (λ j. if i == j then 1 else 0) (range_with_len a n)
  numbers-unit_from i a zero = refl
  numbers-unit_from i a (suc n) = ap₂ (λ (m l : _). m ∷ l) (number-entry i a) (numbers-unit_from i (a + 1) n)

  -- the numbers of a unit row
  pub numbers-unit_of : (n i : ℕ) → numbers number (unit_of nought one n i) ≡ unit_row n i
  numbers-unit_of n i = numbers-unit_from i 0 n

  -- the numbers of the rows of the identity from a place on
  numbers-identity_from : (n a m : ℕ) → map (numbers number) (map (unit_of nought one n) (range_with_len a m)) ≡ map (unit_row n) (range_with_len a m)
  numbers-identity_from n a zero = refl
  numbers-identity_from n a (suc m) = ap₂ (λ (r l : _). r ∷ l) (numbers-unit_of n a) (numbers-identity_from n (a + 1) m)

  -- the numbers of the identity
  pub numbers-identity_of : (n : ℕ) → map (numbers number) (identity_of nought one n) ≡ identity n
  numbers-identity_of n = numbers-identity_from n 0 n

  -- where a product of matrices is the identity, so is that of their numbers
  pub numbers-identity_product : (n : ℕ) (matrix rows : List (List A)) → All (All P) matrix → All (λ row. length row ≡ n) rows → All (All P) rows
      → product_of nought add mul n matrix rows ≡ identity_of nought one n → times_rows kind n (map (numbers number) matrix) (map (numbers number) rows) ≡ identity n
  numbers-identity_product n matrix rows h wide elements same = sym (numbers-product_of n matrix rows h wide elements) ∙ ap (map (numbers number)) same ∙ numbers-identity_of n

  -- the numbers of a row from a place on, with an element added at one place
  numbers-with_sum_from : (row : List A) (by : A) (a i k : ℕ) → a + k ≡ i → k < length row → All P row → P by
      → numbers number (slice_set row k (add (get_or row k nought) by))
      ≡ add_rows (numbers number row) (scale_row kind (number by) (map (λ j. if i == j then 1 else 0) (range_with_len a (length row))))
  numbers-with_sum_from [] by a i k at below h p = absurd (omega arith)
  numbers-with_sum_from (x ∷ row) by a i zero at below h p =
      let yes : (i == a) ≡ true = eq-eqb i a (omega arith) in
      let small = number-below by p in
      let long : length row ≡ length (numbers number row) = sym (length-map row number) in
      rw (
        yes,
        N.number_add x by (All-head P x row h) p,
        product-one kind (number by) small,
        unit_row-before i (a + 1) (length row) (omega arith),
        scale_row-zero_row kind (number by) (length row) small,
        long,
        add_rows-zero_row (numbers number row),
      ) refl
  numbers-with_sum_from (x ∷ row) by a i (suc k) at below h p =
      let no : (i == a) ≡ false = ne_eqb i a (λ e. omega arith) in
      let small = number-below by p in
      rw (
        no,
        product-zero kind (number by) small,
        xor_zero_r (number x),
        numbers-with_sum_from row by (a + 1) i k (omega arith) (omega arith) (All-tail P x row h) p,
      ) refl

  -- the numbers of a row with an element added at one place
  pub numbers-with_sum : (row : List A) (by : A) (i : ℕ) → i < length row → All P row → P by
      → numbers number (slice_set row i (add (get_or row i nought) by))
      ≡ add_rows (numbers number row) (scale_row kind (number by) (unit_row (length row) i))
  numbers-with_sum row by i below h p = numbers-with_sum_from row by 0 i i (omega arith) below h p
