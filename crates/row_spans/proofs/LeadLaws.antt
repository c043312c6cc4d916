-- Laws of a row that leads at a new column. The rows stay reduced, and their sums are those with the row.
use Rattle.std.specs.Prelude.{◌≡◌, ◌≢◌, ℕ, ◌<◌, Bool, true, false, bit_xor, List, [], ◌∷◌, length, set, take, slice_index}
use Rattle.std.specs.List.{AllByRecursion}
use Rattle.std.specs.Int.Bits.{xor_self, xor_zero_r}
use Rattle.std.proofs.Common.{arith, sym, ap, ◌∙◌, get_or, inl, inr, subst}
use Rattle.std.proofs.lemmas.Bool.{both_ways, cases_Bool, cases_eq}
use Rattle.std.proofs.lemmas.List.{get_or-map, get_or-set_other, get_or-set_same, length-map, length-set}
use Rattle.gf_tables.proofs.KindField.{kind_field, product_zero}
use Rattle.gf_tables.specs.Product.{product, size_of}
use Rattle.gf_tables.specs.declared.kind.FieldKind.{FieldKind}
use Rattle.linear_algebra.proofs.FieldLaws.{product-zero}
use Rattle.linear_algebra.proofs.RowLaws.{add_rows-IsRow, add_rows-comm, add_rows-twice, add_rows-zero_row, scale_row-IsRow, scale_row-one, scale_row-scale_row, scale_row-zero, slice_index-add_rows, slice_index-scale_row, slice_index-zero_row}
use Rattle.linear_algebra.specs.Rows.{add_rows, combination, scale_row, zero_row, AreRows, IsRow}
use Rattle.row_spans.proofs.ReducedLaws.{IsRow-cleared, IsSum-added, cleared-marked, cleared-twice, entry_below, row_is}
use Rattle.row_spans.proofs.SumLaws.{IsSum-add_rows, IsSum-get_or, IsSum-of_sums, IsSum-scale_row, IsSum-zero_row, all_by_places, each_IsSum, same_sums}
use Rattle.row_spans.specs.Reduced.{cleared, cleared_by, with_lead, AreReduced, IsLead}
use Rattle.row_spans.specs.Spans.{HaveSameSums, IsSum}

module _ (field : FieldKind) (width rate : ℕ) (marks : List Bool) (rows : List (List ℕ)) (h : AreReduced field width rate marks rows) where
  -- what is left of a cleared row, divided by its entry at a column, leads there
  module _ (row : List ℕ) (is : IsRow field width row) (column by : ℕ) (within : column < rate) (below_by : by < size_of field)
      (divides : product field (slice_index (cleared field width rate rows row) column) by ≡ 1) where
    abbrev left : List ℕ
    left = cleared field width rate rows row

    abbrev lead : List ℕ
    lead = scale_row field by left

    left_is : IsRow field width left
    left_is = IsRow-cleared field width rate marks rows h row is

    entry_is : slice_index left column < size_of field
    entry_is = entry_below field width left column left_is (omega (arith, h.narrow))

    -- its entry isn't zero, so the column isn't marked
    free : get_or marks column false ≡ false
    free = elim (cases_Bool (get_or marks column false)) [
      | inl marked ↦
          let none : slice_index left column ≡ 0 = cleared-marked field width rate marks rows h row is column within marked in
          let zero_is_one : 0 ≡ 1 = sym (product_zero field by) ∙ ap (λ x. product field x by) (sym none) ∙ divides in
          absurd (omega (arith, zero_is_one))
      | inr none ↦ none
    ]

    pub IsLead-divided : IsLead field width rate marks column (scale_row field by left)
    IsLead-divided = record {
      is = scale_row-IsRow field width by left below_by left_is;
      within = within;
      unmarked = free;
      one = slice_index-scale_row field by left column below_by ∙ (kind_field field).mul_comm by (slice_index left column) below_by entry_is ∙ divides;
      zeros = λ p below marked.
          slice_index-scale_row field by left p below_by ∙ ap (product field by) (cleared-marked field width rate marks rows h row is p below marked)
          ∙ product-zero field by below_by;
    }

    -- the cleared row is a multiple of it
    left_from_lead : scale_row field (slice_index left column) lead ≡ left
    left_from_lead =
        scale_row-scale_row field (slice_index left column) by left entry_is below_by left_is.elements
        ∙ ap (λ times. scale_row field times left) divides ∙ scale_row-one field left left_is.elements

    -- with the rows it has the same sums as the row itself
    pub HaveSameSums-divided : HaveSameSums field width (scale_row field by left ∷ rows) (row ∷ rows)
    HaveSameSums-divided =
        let lead_is = scale_row-IsRow field width by left below_by left_is in
        let added = combination field width (take rate row) rows in
        let of_lead = each_IsSum field width (lead ∷ rows) (lead_is, h.are) in
        let of_row = each_IsSum field width (row ∷ rows) (is, h.are) in
        let added_of_lead = IsSum-of_sums field width (lead ∷ rows) (lead_is, h.are) rows of_lead.1 added (IsSum-added field width rate marks rows h row is) in
        let added_of_row = IsSum-of_sums field width (row ∷ rows) (is, h.are) rows of_row.1 added (IsSum-added field width rate marks rows h row is) in
        let lead_of_row = IsSum-scale_row field width (row ∷ rows) (is, h.are) by left below_by (IsSum-add_rows field width (row ∷ rows) (is, h.are) row added of_row.0 added_of_row) in
        let Of : List ℕ → Type 0 = IsSum field width (lead ∷ rows) in
        let left_of_lead = subst Of left_from_lead (IsSum-scale_row field width (lead ∷ rows) (lead_is, h.are) (slice_index left column) lead entry_is of_lead.0) in
        let row_of_lead = subst Of (cleared-twice field width rate marks rows h row is) (IsSum-add_rows field width (lead ∷ rows) (lead_is, h.are) left added left_of_lead added_of_lead) in
        same_sums field width (lead ∷ rows) (row ∷ rows) (lead_is, h.are) (is, h.are) (lead_of_row, of_row.1) (row_of_lead, of_lead.1)

  -- rows with a new one that leads
  module _ (column : ℕ) (lead : List ℕ) (l : IsLead field width rate marks column lead) where
    abbrev cleared_rows : List (List ℕ)
    cleared_rows = cleared_by field column lead rows

    abbrev new : List (List ℕ)
    new = with_lead field column lead rows

    long_cleared : length cleared_rows ≡ rate
    long_cleared = length-map rows (λ row. add_rows row (scale_row field (slice_index row column) lead)) ∙ h.count

    long : length new ≡ rate
    long = length-set cleared_rows column lead ∙ long_cleared

    -- the row at the column
    own : get_or new column [] ≡ lead
    own = get_or-set_same cleared_rows column lead [] (omega (arith, long_cleared, l.within))

    -- another row
    other_row : (q : ℕ) → q < rate → q ≢ column → get_or new q [] ≡ add_rows (get_or rows q []) (scale_row field (slice_index (get_or rows q []) column) lead)
    other_row q inside other =
        get_or-set_other cleared_rows column q lead [] other
        ∙ get_or-map (λ row. add_rows row (scale_row field (slice_index row column) lead)) rows q [] [] (omega (arith, h.count))

    times_below : (q : ℕ) → q < rate → slice_index (get_or rows q []) column < size_of field
    times_below q inside = entry_below field width (get_or rows q []) column (row_is field width rate marks rows h q inside) (omega (arith, h.narrow, l.within))

    scaled_is : (q : ℕ) → q < rate → IsRow field width (scale_row field (slice_index (get_or rows q []) column) lead)
    scaled_is q inside = scale_row-IsRow field width (slice_index (get_or rows q []) column) lead (times_below q inside) l.is

    sum_is : (q : ℕ) → q < rate → IsRow field width (add_rows (get_or rows q []) (scale_row field (slice_index (get_or rows q []) column) lead))
    sum_is q inside = add_rows-IsRow field width _ _ (row_is field width rate marks rows h q inside) (scaled_is q inside)

    -- an entry of another row
    other_entry : (q j : ℕ) → q < rate → q ≢ column
        → slice_index (get_or new q []) j ≡ bit_xor (slice_index (get_or rows q []) j) (product field (slice_index (get_or rows q []) column) (slice_index lead j))
    other_entry q j inside other =
        let row = get_or rows q [] in
        let by = slice_index row column in
        ap (λ xs. slice_index xs j) (other_row q inside other)
        ∙ slice_index-add_rows row (scale_row field by lead) j ((row_is field width rate marks rows h q inside).width ∙ sym (scaled_is q inside).width)
        ∙ ap (bit_xor (slice_index row j)) (slice_index-scale_row field by lead j (times_below q inside))

    -- at a column that was marked it is as it was
    entry_kept : (q p : ℕ) → q < rate → q ≢ column → p < rate → get_or marks p false ≡ true → slice_index (get_or new q []) p ≡ slice_index (get_or rows q []) p
    entry_kept q p inside other below marked =
        let row = get_or rows q [] in
        other_entry q p inside other
        ∙ ap (λ x. bit_xor (slice_index row p) (product field (slice_index row column) x)) (l.zeros p below marked)
        ∙ ap (bit_xor (slice_index row p)) (product-zero field (slice_index row column) (times_below q inside))
        ∙ xor_zero_r (slice_index row p)

    -- at the new column it is zero
    entry_cleared : (q : ℕ) → q < rate → q ≢ column → slice_index (get_or new q []) column ≡ 0
    entry_cleared q inside other =
        let row = get_or rows q [] in
        let by = slice_index row column in
        let laws = kind_field field in
        other_entry q column inside other
        ∙ ap (λ x. bit_xor by (product field by x)) l.one
        ∙ ap (bit_xor by) (laws.mul_comm by 1 (times_below q inside) laws.one_element ∙ laws.one_mul by (times_below q inside))
        ∙ xor_self by

    -- each row is one of elements
    new_is : (q : ℕ) → q < rate → IsRow field width (get_or new q [])
    new_is q inside =
        let P : List ℕ → Type 0 = IsRow field width in
        elim (cases_eq q column) [
          | inl same ↦ subst P (sym (ap (λ k. get_or new k []) same ∙ own)) l.is
          | inr other ↦ subst P (sym (other_row q inside other)) (sum_is q inside)
        ]

    pub AreRows-with_lead : AreRows field width (with_lead field column lead rows)
    AreRows-with_lead = all_by_places (IsRow field width) new (λ q inside. new_is q (omega (arith, long)))

    -- a column that is marked now, and isn't the new one, was marked
    marked_before : (p : ℕ) → p ≢ column → get_or (set marks column true) p false ≡ get_or marks p false
    marked_before p other = get_or-set_other marks column p true false other

    marked_now : get_or (set marks column true) column false ≡ true
    marked_now = get_or-set_same marks column true false (omega (arith, h.columns, l.within))

    new_one : (p : ℕ) → p < rate → get_or (set marks column true) p false ≡ true → slice_index (get_or new p []) p ≡ 1
    new_one p below marked = elim (cases_eq p column) [
      | inl same ↦ ap (λ k. slice_index (get_or new k []) k) same ∙ ap (λ xs. slice_index xs column) own ∙ l.one
      | inr other ↦
          let before = sym (marked_before p other) ∙ marked in
          entry_kept p p below other below before ∙ h.one p below before
    ]

    new_beside : (p q : ℕ) → p < rate → q < rate → get_or (set marks column true) p false ≡ true → q ≢ p → slice_index (get_or new q []) p ≡ 0
    new_beside p q below inside marked apart = elim (cases_eq p column) [
      | inl same ↦ ap (slice_index (get_or new q [])) same ∙ entry_cleared q inside (λ e. apart (e ∙ sym same))
      | inr other ↦
          let before = sym (marked_before p other) ∙ marked in
          elim (cases_eq q column) [
            | inl leads ↦ ap (λ k. slice_index (get_or new k []) p) leads ∙ ap (λ xs. slice_index xs p) own ∙ l.zeros p below before
            | inr not_lead ↦ entry_kept q p inside not_lead below before ∙ h.beside p q below inside before apart
          ]
    ]

    new_unmarked : (p : ℕ) → p < rate → get_or (set marks column true) p false ≡ false → get_or new p [] ≡ zero_row width
    new_unmarked p below none = elim (cases_eq p column) [
      | inl same ↦ absurd (both_ways _ none (ap (λ k. get_or (set marks column true) k false) same ∙ marked_now))
      | inr other ↦
          let zeros = h.unmarked p below (sym (marked_before p other) ∙ none) in
          let by : slice_index (get_or rows p []) column ≡ 0 = ap (λ xs. slice_index xs column) zeros ∙ slice_index-zero_row width column in
          let nothing : scale_row field (slice_index (get_or rows p []) column) lead ≡ zero_row width =
          ap (λ x. scale_row field x lead) by ∙ scale_row-zero field lead ∙ ap zero_row l.is.width in
          let wide = (row_is field width rate marks rows h p below).width in
          other_row p below other ∙ ap (add_rows (get_or rows p [])) (nothing ∙ ap zero_row (sym wide)) ∙ add_rows-zero_row (get_or rows p []) ∙ zeros
    ]

    pub AreReduced-with_lead : AreReduced field width rate (set marks column true) (with_lead field column lead rows)
    AreReduced-with_lead = record {
      narrow = h.narrow;
      are = AreRows-with_lead;
      count = long;
      columns = length-set marks column true ∙ h.columns;
      one = new_one;
      beside = new_beside;
      unmarked = new_unmarked;
    }

    -- each new row is a sum of the rows with the new one
    new_of_lead : AllByRecursion (IsSum field width (lead ∷ rows)) new
    new_of_lead =
        let P : List ℕ → Type 0 = IsSum field width (lead ∷ rows) in
        let each = each_IsSum field width (lead ∷ rows) (l.is, h.are) in
        all_by_places P new (λ q within.
        let inside : q < rate = omega (arith, long) in
        elim (cases_eq q column) [
          | inl same ↦ subst P (sym (ap (λ k. get_or new k []) same ∙ own)) each.0
          | inr other ↦
              let row = get_or rows q [] in
              subst P (sym (other_row q inside other)) (IsSum-add_rows field width (lead ∷ rows) (l.is, h.are) row (scale_row field (slice_index row column) lead)
              (IsSum-of_sums field width (lead ∷ rows) (l.is, h.are) rows each.1 row (IsSum-get_or field width rows h.are q (omega (arith, h.count))))
              (IsSum-scale_row field width (lead ∷ rows) (l.is, h.are) (slice_index row column) lead (times_below q inside) each.0))
        ])

    -- the new one is one of them
    lead_of_new : IsSum field width new lead
    lead_of_new =
        let P : List ℕ → Type 0 = IsSum field width new in
        subst P own (IsSum-get_or field width new AreRows-with_lead column (omega (arith, long, l.within)))

    -- and each row is a sum of them
    rows_of_new : AllByRecursion (IsSum field width new) rows
    rows_of_new =
        let P : List ℕ → Type 0 = IsSum field width new in
        all_by_places P rows (λ q within.
        let inside : q < rate = omega (arith, h.count) in
        let row = get_or rows q [] in
        elim (cases_eq q column) [
          | inl same ↦ subst P (sym (ap (λ k. get_or rows k []) same ∙ h.unmarked column l.within l.unmarked)) (IsSum-zero_row field width new AreRows-with_lead)
          | inr other ↦
              let scaled = scale_row field (slice_index row column) lead in
              let back : add_rows (get_or new q []) scaled ≡ row =
              ap (λ xs. add_rows xs scaled) (other_row q inside other) ∙ add_rows-comm (add_rows row scaled) scaled ∙ ap (add_rows scaled) (add_rows-comm row scaled)
              ∙ add_rows-twice scaled row ((scaled_is q inside).width ∙ sym (row_is field width rate marks rows h q inside).width) in
              subst P back (IsSum-add_rows field width new AreRows-with_lead (get_or new q []) scaled
              (IsSum-get_or field width new AreRows-with_lead q (omega (arith, long)))
              (IsSum-scale_row field width new AreRows-with_lead (slice_index row column) lead (times_below q inside) lead_of_new))
        ])

    -- the sums are those of the rows and the new one
    pub HaveSameSums-with_lead : HaveSameSums field width (with_lead field column lead rows) (lead ∷ rows)
    HaveSameSums-with_lead = same_sums field width new (lead ∷ rows) AreRows-with_lead (l.is, h.are) new_of_lead (lead_of_new, rows_of_new)
