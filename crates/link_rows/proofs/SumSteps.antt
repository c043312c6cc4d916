-- How a sum of multiples of rows is made, one row after another.
use Rattle.std.specs.Prelude.{◌≡◌, ℕ, ◌<◌, ◌≤◌, ◌+◌, List, [], length, take, slice_index}
use Rattle.std.proofs.Common.{sym, ap, ◌∙◌, get_or, add-one}
use Rattle.std.proofs.lemmas.List.{take_all}
use Rattle.gf_tables.specs.declared.kind.FieldKind.{FieldKind}
use Rattle.linear_algebra.proofs.CombinationLaws.{combination-take_more}
use Rattle.linear_algebra.specs.Elements.{elements_of}
use Rattle.linear_algebra.specs.Rows.{add_rows, combination, scale_row}

-- the sum of the first rows
abbrev pub sum_before : FieldKind → ℕ → List ℕ → List (List ℕ) → ℕ → List ℕ
sum_before field width coefficients rows k = combination field width (take k coefficients) (take k rows)

module _ (field : FieldKind) (width : ℕ) (coefficients : List ℕ) (rows : List (List ℕ)) (k : ℕ) where
  -- one more row is added
  pub sum_more : k < length coefficients → k < length rows → length (get_or rows k []) ≡ width → (times : ℕ) (from into now : List ℕ) → slice_index coefficients k ≡ times
      → elements_of field from ≡ get_or rows k []
      → elements_of field now ≡ add_rows (elements_of field into) (scale_row field times (elements_of field from))
      → elements_of field into ≡ sum_before field width coefficients rows k → elements_of field now ≡ sum_before field width coefficients rows (k + 1)
  sum_more below within long times from into now named is made so_far =
      made
      ∙ ap (λ (sum : List ℕ). add_rows sum (scale_row field times (elements_of field from))) so_far
      ∙ ap (λ (n : ℕ). add_rows (sum_before field width coefficients rows k) (scale_row field n (elements_of field from))) (sym named)
      ∙ ap (λ (added : List ℕ). add_rows (sum_before field width coefficients rows k) (scale_row field (slice_index coefficients k) added)) is
      ∙ sym (combination-take_more field width k coefficients rows below within long)
      ∙ ap (sum_before field width coefficients rows) (sym (add-one k))

  -- the sum of all
  pub sum_all : length coefficients ≤ k → length rows ≤ k → (into : List ℕ) → elements_of field into ≡ sum_before field width coefficients rows k
      → elements_of field into ≡ combination field width coefficients rows
  sum_all all whole into so_far =
      so_far
      ∙ ap (λ (chosen : List ℕ). combination field width chosen (take k rows)) (take_all k coefficients all)
      ∙ ap (combination field width coefficients) (take_all k rows whole)
