-- Laws of reduced rows. A sum of them that is zero at the marked columns is zero, so a row is a sum of their vectors exactly where
-- nothing is left of its vector when it is cleared.
use Rattle.std.specs.Prelude.{◌≡◌, ◌⊎◌, ℕ, suc, ◌<◌, Bool, true, false, bit_xor, List, [], ◌∷◌, length, take, slice_index}
use Rattle.std.specs.Int.Bits.{xor_self}
use Rattle.std.proofs.Common.{arith, refl, sym, ap, ◌∙◌, get_or, inl, inr, subst}
use Rattle.std.proofs.Math.Path.{ap₂}
use Rattle.std.proofs.lemmas.Bool.{cases_Bool, cases_eq, eq-eqb, ne_eqb}
use Rattle.std.proofs.lemmas.List.{ext_get_or, get_or-map, get_or-take, length-map, length-replicate, length-take-le, take-replicate, take-take}
use Rattle.std.proofs.lemmas.List.Elements.{All-get_or}
use Rattle.gf_tables.specs.Product.{size_of}
use Rattle.gf_tables.specs.declared.kind.FieldKind.{FieldKind}
use Rattle.linear_algebra.proofs.CombinationLaws.{combination-IsRow, slice_index-combination, take-combination}
use Rattle.linear_algebra.proofs.DotLaws.{dot-unit_row}
use Rattle.linear_algebra.proofs.MatrixLaws.{length-column}
use Rattle.linear_algebra.proofs.RowLaws.{AreElements-head, AreElements-tail, AreRows-get_or, add_rows-IsRow, add_rows-comm, add_rows-twice, add_rows-zero_row, scale_row-zero, scale_row-zero_row, slice_index-add_rows, slice_index-unit_row, slice_index-zero_row, take-add_rows, unit_row-IsRow, zero_row-zero_row}
use Rattle.linear_algebra.specs.Matrices.{column}
use Rattle.linear_algebra.specs.Rows.{add_rows, combination, dot, scale_row, unit_row, zero_row, AreElements, AreRows, IsRow}
use Rattle.row_spans.proofs.SumLaws.{AreRows-vectors, IsRow-take, IsSum-add_rows}
use Rattle.row_spans.specs.Reduced.{cleared, AreReduced}
use Rattle.row_spans.specs.Spans.{IsSum, vectors}

-- the entry of a row
pub entry_below : (field : FieldKind) (width : ℕ) (row : List ℕ) (j : ℕ) → IsRow field width row → j < width → slice_index row j < size_of field
entry_below field width row j is inside = All-get_or (λ element. element < size_of field) row j 0 (omega (arith, is.width)) is.elements

-- a combination where each coefficient is zero or each row is
pub combination-nothing : (field : FieldKind) (width : ℕ) (coefficients : List ℕ) (rows : List (List ℕ)) → AreElements field coefficients → AreRows field width rows
    → ((i : ℕ) → i < length rows → (slice_index coefficients i ≡ 0) ⊎ (get_or rows i [] ≡ zero_row width))
    → combination field width coefficients rows ≡ zero_row width
combination-nothing field width [] rows h are each = refl
combination-nothing field width (times ∷ coefficients) [] h are each = refl
combination-nothing field width (times ∷ coefficients) (row ∷ rows) h are each =
    let below = AreElements-head field times coefficients h in
    let rest = combination-nothing field width coefficients rows (AreElements-tail field times coefficients h) are.1 (λ i inside. each (suc i) (omega arith)) in
    let first : scale_row field times row ≡ zero_row width = elim (each 0 (omega arith)) [
      | inl none ↦ ap (λ t. scale_row field t row) none ∙ scale_row-zero field row ∙ ap zero_row are.0.width
      | inr zeros ↦ ap (scale_row field times) zeros ∙ scale_row-zero_row field times width below
    ] in
    ap₂ add_rows first rest ∙ zero_row-zero_row width

-- the sum of two rows is zero where they are the same
pub same_from_sum : (width : ℕ) (xs ys : List ℕ) → length xs ≡ width → length ys ≡ width → add_rows xs ys ≡ zero_row width → xs ≡ ys
same_from_sum width xs ys long_x long_y none =
    sym (sym (add_rows-twice xs ys (long_x ∙ sym long_y)) ∙ ap (add_rows xs) (none ∙ ap zero_row (sym long_x)) ∙ add_rows-zero_row xs)

module _ (field : FieldKind) (width rate : ℕ) (marks : List Bool) (rows : List (List ℕ)) (h : AreReduced field width rate marks rows) where
  -- the row of a column
  pub row_is : (q : ℕ) → q < rate → IsRow field width (get_or rows q [])
  row_is q inside = AreRows-get_or field width q rows (omega (arith, h.count)) h.are

  -- a marked column is that of the identity
  pub column-marked : (p : ℕ) → p < rate → get_or marks p false ≡ true → column p rows ≡ unit_row rate p
  column-marked p below marked =
      let long : length (column p rows) ≡ rate = length-column p rows ∙ h.count in
      ext_get_or 0 (column p rows) (unit_row rate p) (long ∙ sym (unit_row-IsRow field rate p).width) (λ q inside.
      let within : q < rate = omega (arith, long) in
      let entry : get_or (column p rows) q 0 ≡ slice_index (get_or rows q []) p = get_or-map (λ row. slice_index row p) rows q [] 0 (omega (arith, h.count)) in
      entry ∙ sym (slice_index-unit_row rate p q within ∙ sym (elim (cases_eq p q) [
        | inl same ↦ rw (eq-eqb p q same, ← same) (h.one p below marked)
        | inr other ↦ rw (ne_eqb p q other) (h.beside p q below within marked (λ e. other (sym e)))
      ])))

  -- at a marked column a combination has the coefficient
  pub entry_of_combination : (coefficients : List ℕ) → IsRow field rate coefficients → (p : ℕ) → p < rate → get_or marks p false ≡ true
      → slice_index (combination field width coefficients rows) p ≡ slice_index coefficients p
  entry_of_combination coefficients is p below marked =
      slice_index-combination field width coefficients rows p is.elements h.are ∙ ap (dot field coefficients) (column-marked p below marked)
      ∙ dot-unit_row field rate p coefficients below is

  -- a sum that is zero at the marked columns is zero
  pub zero_sum : (row : List ℕ) → IsSum field width rows row → ((p : ℕ) → p < rate → get_or marks p false ≡ true → slice_index row p ≡ 0) → row ≡ zero_row width
  zero_sum row is zeros =
      let coefficients_are : IsRow field rate is.coefficients = record { width = is.count ∙ h.count; elements = is.elements } in
      sym is.sum ∙ combination-nothing field width is.coefficients rows is.elements h.are (λ i inside.
      let below : i < rate = omega (arith, h.count) in
      elim (cases_Bool (get_or marks i false)) [
        | inl marked ↦ inl (sym (entry_of_combination is.coefficients coefficients_are i below marked) ∙ ap (λ xs. slice_index xs i) is.sum ∙ zeros i below marked)
        | inr none ↦ inr (h.unmarked i below none)
      ])

  -- the vectors of reduced rows are reduced
  pub AreReduced-vectors : AreReduced field rate rate marks (vectors rate rows)
  AreReduced-vectors =
      let at : (q : ℕ) → q < rate → get_or (vectors rate rows) q [] ≡ take rate (get_or rows q []) = λ q inside. get_or-map (take rate) rows q [] [] (omega (arith, h.count)) in
      let entry : (q p : ℕ) → q < rate → p < rate → slice_index (get_or (vectors rate rows) q []) p ≡ slice_index (get_or rows q []) p =
      λ q p inside below. ap (λ xs. slice_index xs p) (at q inside) ∙ get_or-take rate (get_or rows q []) p 0 below in
      record {
        narrow = omega arith;
        are = AreRows-vectors field width rate rows h.narrow h.are;
        count = length-map rows (take rate) ∙ h.count;
        columns = h.columns;
        one = λ p below marked. entry p p below below ∙ h.one p below marked;
        beside = λ p q below inside marked other. entry q p inside below ∙ h.beside p q below inside marked other;
        unmarked = λ p below none. at p below ∙ ap (take rate) (h.unmarked p below none) ∙ take-replicate rate width 0 h.narrow;
      }

  module _ (row : List ℕ) (is : IsRow field width row) where
    -- its vector
    vector_is : IsRow field rate (take rate row)
    vector_is = IsRow-take field width rate row h.narrow is

    -- what is added to it
    pub added_is : IsRow field width (combination field width (take rate row) rows)
    added_is = combination-IsRow field width (take rate row) rows vector_is.elements h.are

    -- it is a sum of the rows
    pub IsSum-added : IsSum field width rows (combination field width (take rate row) rows)
    IsSum-added = record { coefficients = take rate row; elements = vector_is.elements; count = vector_is.width ∙ sym h.count; sum = refl }

    -- a cleared row
    pub IsRow-cleared : IsRow field width (cleared field width rate rows row)
    IsRow-cleared = add_rows-IsRow field width row (combination field width (take rate row) rows) is added_is

    -- is zero at the marked columns
    pub cleared-marked : (p : ℕ) → p < rate → get_or marks p false ≡ true → slice_index (cleared field width rate rows row) p ≡ 0
    cleared-marked p below marked =
        let added = combination field width (take rate row) rows in
        slice_index-add_rows row added p (is.width ∙ sym added_is.width)
        ∙ ap (bit_xor (slice_index row p)) (entry_of_combination (take rate row) vector_is p below marked ∙ get_or-take rate row p 0 below)
        ∙ xor_self (slice_index row p)

    -- its vector is the cleared vector
    pub take-cleared : take rate (cleared field width rate rows row) ≡ cleared field rate rate (vectors rate rows) (take rate row)
    take-cleared =
        take-add_rows rate row (combination field width (take rate row) rows)
        ∙ ap (add_rows (take rate row)) (take-combination field width rate (take rate row) rows h.narrow
        ∙ ap (λ xs. combination field rate xs (vectors rate rows)) (sym (take-take rate rate row (omega arith))))

    -- what is cleared away is the row itself, with what is left
    pub cleared-twice : add_rows (cleared field width rate rows row) (combination field width (take rate row) rows) ≡ row
    cleared-twice =
        let added = combination field width (take rate row) rows in
        add_rows-comm (add_rows row added) added ∙ ap (add_rows added) (add_rows-comm row added) ∙ add_rows-twice added row (added_is.width ∙ sym is.width)

module _ (field : FieldKind) (width rate : ℕ) (marks : List Bool) (rows : List (List ℕ)) (h : AreReduced field width rate marks rows) (row : List ℕ) (is : IsRow field width row) where
  -- where nothing is left of the vector it is a sum of the vectors
  pub sum_from_nothing : take rate (cleared field width rate rows row) ≡ zero_row rate → IsSum field rate (vectors rate rows) (take rate row)
  sum_from_nothing none =
      let reduced = AreReduced-vectors field width rate marks rows h in
      let vector = IsRow-take field width rate row h.narrow is in
      let added = IsSum-added field rate rate marks (vectors rate rows) reduced (take rate row) vector in
      let added_row = added_is field rate rate marks (vectors rate rows) reduced (take rate row) vector in
      let same = same_from_sum rate (take rate row) (combination field rate (take rate (take rate row)) (vectors rate rows)) vector.width added_row.width
      (sym (take-cleared field width rate marks rows h row is) ∙ none) in
      let P : List ℕ → Type 0 = IsSum field rate (vectors rate rows) in
      subst P (sym same) added

  -- and where it is a sum of the vectors nothing is left of it
  pub nothing_from_sum : IsSum field rate (vectors rate rows) (take rate row) → take rate (cleared field width rate rows row) ≡ zero_row rate
  nothing_from_sum sum =
      let reduced = AreReduced-vectors field width rate marks rows h in
      let vector = IsRow-take field width rate row h.narrow is in
      take-cleared field width rate marks rows h row is
      ∙ zero_sum field rate rate marks (vectors rate rows) reduced (cleared field rate rate (vectors rate rows) (take rate row))
      (IsSum-add_rows field rate (vectors rate rows) reduced.are (take rate row) (combination field rate (take rate (take rate row)) (vectors rate rows)) sum
      (IsSum-added field rate rate marks (vectors rate rows) reduced (take rate row) vector))
      (cleared-marked field rate rate marks (vectors rate rows) reduced (take rate row) vector)

  -- where all columns are marked each vector is a sum of the vectors
  pub sum_where_marked : ((p : ℕ) → p < rate → get_or marks p false ≡ true) → IsSum field rate (vectors rate rows) (take rate row)
  sum_where_marked all =
      let left = cleared field width rate rows row in
      let long : length left ≡ width = (IsRow-cleared field width rate marks rows h row is).width in
      let short : length (take rate left) ≡ rate = length-take-le rate left (omega (arith, h.narrow, long)) in
      sum_from_nothing (ext_get_or 0 (take rate left) (zero_row rate) (short ∙ sym (length-replicate rate 0)) (λ p inside.
      let below : p < rate = omega (arith, inside, short) in
      get_or-take rate left p 0 below ∙ cleared-marked field width rate marks rows h row is p below (all p below)
      ∙ sym (slice_index-zero_row rate p)))
