-- Laws of reduced rows at their ends: no column is marked, all are, or one isn't. A column that isn't marked gives a row that is hidden
-- from the vectors.
use Rattle.std.specs.Prelude.{◌≡◌, ℕ, ◌<◌, ◌≤◌, Bool, true, false, bit_xor, List, [], ◌∷◌, length, replicate, set, take, slice_index}
use Rattle.std.specs.List.{AllByRecursion}
use Rattle.std.specs.Int.Bits.{xor_self, xor_zero_l, xor_zero_r}
use Rattle.std.proofs.Common.{arith, sym, ap, ◌∙◌, get_or, inl, inr, subst}
use Rattle.std.proofs.Math.Path.{ap₂}
use Rattle.std.proofs.lemmas.Bool.{both_ways, cases_eq, eq-eqb, ne_eqb}
use Rattle.std.proofs.lemmas.List.{ext_get_or, get_or-map, get_or-replicate, get_or-set_other, get_or-set_same, get_or-take, length-replicate, length-set}
use Rattle.std.proofs.lemmas.List.Elements.{All-from_get_or, All-set}
use Rattle.gf_tables.proofs.KindField.{kind_field}
use Rattle.gf_tables.specs.Product.{size_of}
use Rattle.gf_tables.specs.declared.kind.FieldKind.{FieldKind}
use Rattle.linear_algebra.proofs.CombinationLaws.{slice_index-combination}
use Rattle.linear_algebra.proofs.DotLaws.{dot-add_rows_left, dot-comm, dot-unit_row}
use Rattle.linear_algebra.proofs.MatrixLaws.{length-column}
use Rattle.linear_algebra.proofs.RowLaws.{length-add_rows, slice_index-add_rows, slice_index-unit_row, slice_index-zero_row, unit_row-IsRow, zero_row-IsRow}
use Rattle.linear_algebra.specs.Matrices.{column}
use Rattle.linear_algebra.specs.Rows.{add_rows, combination, dot, unit_row, zero_row, AreElements, IsRow}
use Rattle.row_spans.proofs.KeptLaws.{kept-all}
use Rattle.row_spans.proofs.ReducedLaws.{IsSum-added, added_is, cleared-marked, entry_below, row_is, same_from_sum, zero_sum}
use Rattle.row_spans.proofs.SumLaws.{IsRow-take, IsSum-add_rows, IsSum-get_or, all_by_places}
use Rattle.row_spans.specs.Reduced.{cleared, kept, AreReduced}
use Rattle.row_spans.specs.Spans.{vectors, IsHidden}

-- the rows of zeros, where no column is marked
pub AreReduced-none : (field : FieldKind) (width rate : ℕ) → rate ≤ width → AreReduced field width rate (replicate rate false) (replicate rate (zero_row width))
AreReduced-none field width rate narrow =
    let long : length (replicate rate (zero_row width)) ≡ rate = length-replicate rate (zero_row width) in
    let zeros : (p : ℕ) → p < rate → get_or (replicate rate (zero_row width)) p [] ≡ zero_row width = λ p below. get_or-replicate rate p (zero_row width) [] below in
    let none : (p : ℕ) → p < rate → get_or (replicate rate false) p false ≡ false = λ p below. get_or-replicate rate p false false below in
    let P : List ℕ → Type 0 = IsRow field width in
    record {
      narrow = narrow;
      are = all_by_places P (replicate rate (zero_row width)) (λ q within. subst P (sym (zeros q (omega (arith, long)))) (zero_row-IsRow field width));
      count = long;
      columns = length-replicate rate false;
      one = λ p below marked. absurd (both_ways _ (none p below) marked);
      beside = λ p q below inside marked other. absurd (both_ways _ (none p below) marked);
      unmarked = λ p below unmarked. zeros p below;
    }

-- what holds of the vector of each row holds of each vector
all_vectors : (P : List ℕ → Type 0) (rate : ℕ) (rows : List (List ℕ)) → AllByRecursion (λ row. P (take rate row)) rows → AllByRecursion P (vectors rate rows)
all_vectors P rate [] each = tt
all_vectors P rate (row ∷ rows) each = (each.0, all_vectors P rate rows each.1)

module _ (field : FieldKind) (width rate : ℕ) (marks : List Bool) (rows : List (List ℕ)) (h : AreReduced field width rate marks rows) where
  -- where all columns are marked the vectors are those of the identity
  pub unit_vector : ((p : ℕ) → p < rate → get_or marks p false ≡ true) → (k : ℕ) → k < rate → take rate (get_or rows k []) ≡ unit_row rate k
  unit_vector all k below =
      let vector = IsRow-take field width rate (get_or rows k []) h.narrow (row_is field width rate marks rows h k below) in
      ext_get_or 0 (take rate (get_or rows k [])) (unit_row rate k) (vector.width ∙ sym (unit_row-IsRow field rate k).width) (λ j inside.
      let within : j < rate = omega (arith, vector.width) in
      get_or-take rate (get_or rows k []) j 0 within ∙ sym (slice_index-unit_row rate k j within ∙ sym (elim (cases_eq k j) [
        | inl same ↦ rw (eq-eqb k j same, ← same) (h.one k below (all k below))
        | inr other ↦ rw (ne_eqb k j other) (h.beside j k within below (all j within) other)
      ])))

  module _ (place : ℕ) (within : place < rate) (none : get_or marks place false ≡ false) where
    abbrev entries : List ℕ
    entries = column place rows

    abbrev found : List ℕ
    found = set entries place 1

    long : length entries ≡ rate
    long = length-column place rows ∙ h.count

    entry : (q : ℕ) → q < rate → get_or entries q 0 ≡ slice_index (get_or rows q []) place
    entry q inside = get_or-map (λ row. slice_index row place) rows q [] 0 (omega (arith, h.count))

    -- the column has elements
    entries_are : AreElements field entries
    entries_are =
        let P : ℕ → Type 0 = λ element. element < size_of field in
        All-from_get_or P entries 0 (λ q inside.
        let below : q < rate = omega (arith, long) in
        subst P (sym (entry q below)) (entry_below field width (get_or rows q []) place (row_is field width rate marks rows h q below) (omega (arith, within, h.narrow))))

    found_is : IsRow field rate found
    found_is = record {
      width = length-set entries place 1 ∙ long;
      elements = All-set (λ element. element < size_of field) entries place 1 (kind_field field).one_element entries_are;
    }

    -- it is the column and a unit row
    found_sum : found ≡ add_rows entries (unit_row rate place)
    found_sum =
        let unit = unit_row-IsRow field rate place in
        let sum_long : length (add_rows entries (unit_row rate place)) ≡ rate = length-add_rows entries (unit_row rate place) (long ∙ sym unit.width) ∙ unit.width in
        ext_get_or 0 found (add_rows entries (unit_row rate place)) (found_is.width ∙ sym sum_long) (λ j inside.
        let below : j < rate = omega (arith, found_is.width) in
        sym (slice_index-add_rows entries (unit_row rate place) j (long ∙ sym unit.width) ∙ ap (bit_xor (slice_index entries j)) (slice_index-unit_row rate place j below)
        ∙ elim (cases_eq place j) [
          | inl same ↦
              let nothing : slice_index entries j ≡ 0 =
              ap (slice_index entries) (sym same) ∙ entry place within ∙ ap (λ xs. slice_index xs place) (h.unmarked place within none) ∙ slice_index-zero_row width place in
              rw (eq-eqb place j same, nothing) (xor_zero_l 1 ∙ sym (ap (λ k. get_or found k 0) (sym same) ∙ get_or-set_same entries place 1 0 (omega (arith, long, within))))
          | inr other ↦
              rw (ne_eqb place j other) (xor_zero_r (slice_index entries j) ∙ sym (get_or-set_other entries place j 1 0 (λ e. other (sym e))))
        ]))

    -- each row is the sum that clears it
    cleared_sum : (q : ℕ) → q < rate → get_or rows q [] ≡ combination field width (take rate (get_or rows q [])) rows
    cleared_sum q inside =
        let row = get_or rows q [] in
        let is = row_is field width rate marks rows h q inside in
        let added = combination field width (take rate row) rows in
        let nothing = zero_sum field width rate marks rows h (cleared field width rate rows row)
        (IsSum-add_rows field width rows h.are row added (IsSum-get_or field width rows h.are q (omega (arith, h.count))) (IsSum-added field width rate marks rows h row is))
        (cleared-marked field width rate marks rows h row is) in
        same_from_sum width row added is.width (added_is field width rate marks rows h row is).width nothing

    -- each vector gives zero with it
    product_zero_at : (q : ℕ) → q < rate → dot field (take rate (get_or rows q [])) found ≡ 0
    product_zero_at q inside =
        let row = get_or rows q [] in
        let vector = take rate row in
        let is = IsRow-take field width rate row h.narrow (row_is field width rate marks rows h q inside) in
        let unit = unit_row-IsRow field rate place in
        let first : dot field entries vector ≡ slice_index row place =
        dot-comm field entries vector entries_are is.elements
        ∙ sym (slice_index-combination field width vector rows place is.elements h.are) ∙ ap (λ xs. slice_index xs place) (sym (cleared_sum q inside)) in
        let second : dot field (unit_row rate place) vector ≡ slice_index row place =
        dot-comm field (unit_row rate place) vector unit.elements is.elements ∙ dot-unit_row field rate place vector within is ∙ get_or-take rate row place 0 within in
        dot-comm field vector found is.elements found_is.elements
        ∙ ap (λ xs. dot field xs vector) found_sum
        ∙ dot-add_rows_left field entries (unit_row rate place) vector entries_are unit.elements is.elements (long ∙ sym unit.width)
        ∙ ap₂ bit_xor first second ∙ xor_self (slice_index row place)

    pub IsHidden-column : IsHidden field rate (vectors rate (kept marks rows)) (set (column place rows) place 1)
    IsHidden-column = record {
      is = found_is;
      nonzero = λ same.
          let one : 1 ≡ 0 = sym (get_or-set_same entries place 1 0 (omega (arith, long, within))) ∙ ap (λ xs. slice_index xs place) same ∙ slice_index-zero_row rate place in
          omega (arith, one);
      products = all_vectors (λ vector. dot field vector found ≡ 0) rate (kept marks rows)
          (kept-all (λ row. dot field (take rate row) found ≡ 0) marks rows
          (all_by_places (λ row. dot field (take rate row) found ≡ 0) rows (λ q below. product_zero_at q (omega (arith, h.count)))));
    }
