-- How a row is cleared, one kept row after another.
use Rattle.std.specs.Prelude.{◌≡◌, ℕ, zero, suc, ◌+◌, ◌<◌, ◌≤◌, Bool, false, List, [], ◌∷◌, length, take, slice_index}
use Rattle.std.specs.List.{AllByRecursion}
use Rattle.std.proofs.Common.{arith, sym, ap, ◌∙◌, get_or, add-one}
use Rattle.std.proofs.lemmas.List.{get_or-take, take_all}
use Rattle.std.proofs.lemmas.List.Elements.{All-take}
use Rattle.gf_tables.specs.Product.{size_of}
use Rattle.gf_tables.specs.declared.kind.FieldKind.{FieldKind}
use Rattle.linear_algebra.proofs.CombinationLaws.{combination-IsRow, combination-take_more}
use Rattle.linear_algebra.proofs.RowLaws.{add_rows-IsRow, add_rows-assoc, add_rows-zero_row, scale_row-zero_row}
use Rattle.linear_algebra.specs.Rows.{add_rows, combination, scale_row, zero_row, IsRow}
use Rattle.row_spans.proofs.ReducedLaws.{entry_below, row_is}
use Rattle.row_spans.proofs.SumLaws.{IsRow-take}
use Rattle.row_spans.specs.Reduced.{cleared, AreReduced}

-- what holds of each row holds of each of the first
AllByRecursion-take : (P : List ℕ → Type 0) (k : ℕ) (rows : List (List ℕ)) → AllByRecursion P rows → AllByRecursion P (take k rows)
AllByRecursion-take P zero rows each = tt
AllByRecursion-take P (suc k) [] each = tt
AllByRecursion-take P (suc k) (row ∷ rows) each = (each.0, AllByRecursion-take P k rows each.1)

-- a row with the first kept rows added, each as often as its column's entry says
abbrev pub cleared_before : FieldKind → ℕ → ℕ → List (List ℕ) → List ℕ → ℕ → List ℕ
cleared_before field width rate rows row k = add_rows row (combination field width (take k (take rate row)) (take k rows))

-- it is the row where none is added
pub cleared_none : (field : FieldKind) (width rate : ℕ) (rows : List (List ℕ)) (row : List ℕ) → length row ≡ width → row ≡ cleared_before field width rate rows row 0
cleared_none field width rate rows row long = sym (ap (λ n. add_rows row (zero_row n)) (sym long) ∙ add_rows-zero_row row)

module _ (field : FieldKind) (width rate : ℕ) (marks : List Bool) (rows : List (List ℕ)) (h : AreReduced field width rate marks rows) (row : List ℕ) (is : IsRow field width row) where
  vector_is : IsRow field rate (take rate row)
  vector_is = IsRow-take field width rate row h.narrow is

  -- it has the width
  so_far_is : (k : ℕ) → IsRow field width (cleared_before field width rate rows row k)
  so_far_is k =
      add_rows-IsRow field width row (combination field width (take k (take rate row)) (take k rows)) is
      (combination-IsRow field width (take k (take rate row)) (take k rows) (All-take (λ element. element < size_of field) k (take rate row) vector_is.elements)
      (AllByRecursion-take (IsRow field width) k rows h.are))

  -- one more is added
  pub cleared_more : (k : ℕ) → k < rate
      → add_rows (cleared_before field width rate rows row k) (scale_row field (slice_index row k) (get_or rows k [])) ≡ cleared_before field width rate rows row (k + 1)
  cleared_more k below =
      let scaled = scale_row field (slice_index row k) (get_or rows k []) in
      add_rows-assoc row (combination field width (take k (take rate row)) (take k rows)) scaled
      ∙ ap (λ times. add_rows row (add_rows (combination field width (take k (take rate row)) (take k rows)) (scale_row field times (get_or rows k [])))) (sym (get_or-take rate row k 0 below))
      ∙ ap (add_rows row) (sym (combination-take_more field width k (take rate row) rows (omega (arith, vector_is.width)) (omega (arith, h.count)) (row_is field width rate marks rows h k below).width))
      ∙ ap (cleared_before field width rate rows row) (sym (add-one k))

  -- a row of zeros adds nothing
  pub cleared_skip : (k : ℕ) → k < rate → get_or marks k false ≡ false → cleared_before field width rate rows row k ≡ cleared_before field width rate rows row (k + 1)
  cleared_skip k below none =
      let so_far = cleared_before field width rate rows row k in
      let zeros : scale_row field (slice_index row k) (get_or rows k []) ≡ zero_row width =
      ap (scale_row field (slice_index row k)) (h.unmarked k below none)
      ∙ scale_row-zero_row field (slice_index row k) width (entry_below field width row k is (omega (arith, h.narrow))) in
      sym (ap (λ n. add_rows so_far (zero_row n)) (sym (so_far_is k).width) ∙ add_rows-zero_row so_far) ∙ ap (add_rows so_far) (sym zeros) ∙ cleared_more k below

  -- all are added
  pub cleared_whole : (k : ℕ) → rate ≤ k → cleared_before field width rate rows row k ≡ cleared field width rate rows row
  cleared_whole k all =
      ap (λ xs. add_rows row (combination field width xs (take k rows))) (take_all k (take rate row) (omega (arith, vector_is.width)))
      ∙ ap (λ xs. add_rows row (combination field width (take rate row) xs)) (take_all k rows (omega (arith, h.count)))
