-- Laws of sums of multiples of rows. A sum of sums is a sum, sums of vectors are vectors of sums, and a row that gives zero with
-- each row gives zero with each sum.
use Rattle.std.specs.Prelude.{◌≡◌, ℕ, suc, ◌<◌, ◌≤◌, List, [], ◌∷◌, length, map, take}
use Rattle.std.specs.List.{AllByRecursion}
use Rattle.std.proofs.Common.{arith, refl, sym, ap, ◌∙◌, get_or, subst}
use Rattle.std.proofs.Math.Path.{ap₂}
use Rattle.std.proofs.lemmas.List.{length-map, length-replicate, length-take-le}
use Rattle.std.proofs.lemmas.List.Elements.{All-take}
use Rattle.gf_tables.specs.Product.{size_of}
use Rattle.gf_tables.specs.declared.kind.FieldKind.{FieldKind}
use Rattle.linear_algebra.proofs.CombinationLaws.{combination-IsRow, combination-add_rows, combination-scale_row, combination-unit_row, combination-zero_row, dot-combination, take-combination}
use Rattle.linear_algebra.proofs.DotLaws.{dot-zero_row}
use Rattle.linear_algebra.proofs.RowLaws.{AreElements-head, AreElements-tail, add_rows-elements, length-add_rows, length-scale_row, scale_row-elements, unit_row-IsRow, zero_row-IsRow}
use Rattle.linear_algebra.specs.Rows.{add_rows, combination, dot, scale_row, unit_row, zero_row, AreElements, AreRows, IsRow}
use Rattle.row_spans.specs.Spans.{HaveSameSums, IsSum, vectors}

-- what holds of the row at each place holds of each row
pub all_by_places : (P : List ℕ → Type 0) (rows : List (List ℕ)) → ((i : ℕ) → i < length rows → P (get_or rows i [])) → AllByRecursion P rows
all_by_places P [] at = tt
all_by_places P (row ∷ rows) at = (at 0 (omega arith), all_by_places P rows (λ i below. at (suc i) (omega arith)))

-- what holds of zeros, of sums and of multiples
module _ (field : FieldKind) (width : ℕ) (P : List ℕ → Type 0) (zeros : P (zero_row width)) (sums : (xs ys : List ℕ) → P xs → P ys → P (add_rows xs ys))
    (multiples : (times : ℕ) (row : List ℕ) → times < size_of field → P row → P (scale_row field times row)) where
  -- holds of each combination of rows of which it holds
  pub holds_of_combination : (coefficients : List ℕ) (rows : List (List ℕ)) → AreElements field coefficients → AllByRecursion P rows → P (combination field width coefficients rows)
  holds_of_combination [] rows h each = zeros
  holds_of_combination (times ∷ coefficients) [] h each = zeros
  holds_of_combination (times ∷ coefficients) (row ∷ rows) h each =
      sums (scale_row field times row) (combination field width coefficients rows) (multiples times row (AreElements-head field times coefficients h) each.0)
      (holds_of_combination coefficients rows (AreElements-tail field times coefficients h) each.1)

  -- and of each sum
  pub holds_of_sum : (rows : List (List ℕ)) → AllByRecursion P rows → (row : List ℕ) → IsSum field width rows row → P row
  holds_of_sum rows each row is = subst P is.sum (holds_of_combination is.coefficients rows is.elements each)

module _ (field : FieldKind) (width : ℕ) (rows : List (List ℕ)) (are : AreRows field width rows) where
  -- zeros are a sum
  pub IsSum-zero_row : IsSum field width rows (zero_row width)
  IsSum-zero_row = record {
    coefficients = zero_row (length rows);
    elements = (zero_row-IsRow field (length rows)).elements;
    count = length-replicate (length rows) 0;
    sum = combination-zero_row field width (length rows) rows are;
  }

  -- each row is a sum
  pub IsSum-get_or : (i : ℕ) → i < length rows → IsSum field width rows (get_or rows i [])
  IsSum-get_or i below = record {
    coefficients = unit_row (length rows) i;
    elements = (unit_row-IsRow field (length rows) i).elements;
    count = (unit_row-IsRow field (length rows) i).width;
    sum = combination-unit_row field width (length rows) i rows below refl are;
  }

  -- the sum of two sums
  pub IsSum-add_rows : (xs ys : List ℕ) → IsSum field width rows xs → IsSum field width rows ys → IsSum field width rows (add_rows xs ys)
  IsSum-add_rows xs ys x y = record {
    coefficients = add_rows x.coefficients y.coefficients;
    elements = add_rows-elements field x.coefficients y.coefficients x.elements y.elements;
    count = length-add_rows x.coefficients y.coefficients (x.count ∙ sym y.count) ∙ y.count;
    sum = combination-add_rows field width x.coefficients y.coefficients rows x.elements y.elements (x.count ∙ sym y.count) are ∙ ap₂ add_rows x.sum y.sum;
  }

  -- a multiple of a sum
  pub IsSum-scale_row : (times : ℕ) (row : List ℕ) → times < size_of field → IsSum field width rows row → IsSum field width rows (scale_row field times row)
  IsSum-scale_row times row below is = record {
    coefficients = scale_row field times is.coefficients;
    elements = scale_row-elements field times is.coefficients below is.elements;
    count = length-scale_row field times is.coefficients ∙ is.count;
    sum = combination-scale_row field width times is.coefficients rows below is.elements are ∙ ap (scale_row field times) is.sum;
  }

  -- a sum of rows of elements is one too
  pub IsSum-IsRow : (row : List ℕ) → IsSum field width rows row → IsRow field width row
  IsSum-IsRow row is =
      let P : List ℕ → Type 0 = IsRow field width in
      subst P is.sum (combination-IsRow field width is.coefficients rows is.elements are)

  -- a sum of sums is a sum
  pub IsSum-of_sums : (others : List (List ℕ)) → AllByRecursion (IsSum field width rows) others → (row : List ℕ) → IsSum field width others row → IsSum field width rows row
  IsSum-of_sums = holds_of_sum field width (IsSum field width rows) IsSum-zero_row IsSum-add_rows IsSum-scale_row

  -- the products of rows with one that gives zero with each
  zero_products : (v : List ℕ) (others : List (List ℕ)) → AllByRecursion (λ row. dot field row v ≡ 0) others → map (λ row. dot field row v) others ≡ zero_row (length others)
  zero_products v [] zeros = refl
  zero_products v (other ∷ others) zeros = ap₂ ◌∷◌ zeros.0 (zero_products v others zeros.1)

  -- a row that gives zero with each row gives zero with each sum
  pub dot-IsSum : (v : List ℕ) → IsRow field width v → AllByRecursion (λ row. dot field row v ≡ 0) rows → (row : List ℕ) → IsSum field width rows row → dot field row v ≡ 0
  dot-IsSum v is zeros row sum =
      ap (λ xs. dot field xs v) (sym sum.sum)
      ∙ dot-combination field width sum.coefficients rows v sum.elements are is
      ∙ ap (dot field sum.coefficients) (zero_products v rows zeros)
      ∙ dot-zero_row field (length rows) sum.coefficients sum.elements

-- each row of a list is one of its sums
pub each_IsSum : (field : FieldKind) (width : ℕ) (rows : List (List ℕ)) → AreRows field width rows → AllByRecursion (IsSum field width rows) rows
each_IsSum field width rows are = all_by_places (IsSum field width rows) rows (IsSum-get_or field width rows are)

-- lists of rows that are sums of one another
pub same_sums : (field : FieldKind) (width : ℕ) (rows others : List (List ℕ)) → AreRows field width rows → AreRows field width others
    → AllByRecursion (IsSum field width others) rows → AllByRecursion (IsSum field width rows) others → HaveSameSums field width rows others
same_sums field width rows others are others_are each others_each row =
    (IsSum-of_sums field width others others_are rows each row, IsSum-of_sums field width rows are others others_each row)

-- each list has its own sums
pub HaveSameSums-same : (field : FieldKind) (width : ℕ) (rows : List (List ℕ)) → HaveSameSums field width rows rows
HaveSameSums-same field width rows row = (λ h. h, λ h. h)

-- lists with the same sums may change places
pub HaveSameSums-back : (field : FieldKind) (width : ℕ) (rows others : List (List ℕ)) → HaveSameSums field width rows others → HaveSameSums field width others rows
HaveSameSums-back field width rows others same row = ((same row).1, (same row).0)

-- lists that have the sums of one list
pub HaveSameSums-then : (field : FieldKind) (width : ℕ) (rows others thirds : List (List ℕ)) → HaveSameSums field width rows others → HaveSameSums field width others thirds
    → HaveSameSums field width rows thirds
HaveSameSums-then field width rows others thirds first second row =
    (λ h. (second row).0 ((first row).0 h), λ h. (first row).1 ((second row).1 h))

-- a row and others are sums of the row and rows with the same sums
more_before : (field : FieldKind) (width : ℕ) (row : List ℕ) (rows others : List (List ℕ)) → IsRow field width row → AreRows field width rows → AreRows field width others
    → HaveSameSums field width rows others → AllByRecursion (IsSum field width (row ∷ others)) (row ∷ rows)
more_before field width row rows others is are others_are same =
    let behind = each_IsSum field width (row ∷ others) (is, others_are) in
    (behind.0, all_by_places (IsSum field width (row ∷ others)) rows (λ i below. IsSum-of_sums field width (row ∷ others) (is, others_are) others behind.1 (get_or rows i []) ((same (get_or rows i [])).0 (IsSum-get_or field width rows are i below))))

-- a row before lists with the same sums
pub HaveSameSums-cons : (field : FieldKind) (width : ℕ) (row : List ℕ) (rows others : List (List ℕ)) → IsRow field width row → AreRows field width rows → AreRows field width others
    → HaveSameSums field width rows others → HaveSameSums field width (row ∷ rows) (row ∷ others)
HaveSameSums-cons field width row rows others is are others_are same =
    same_sums field width (row ∷ rows) (row ∷ others) (is, are) (is, others_are) (more_before field width row rows others is are others_are same)
    (more_before field width row others rows is others_are are (HaveSameSums-back field width rows others same))

-- the vector of a row
pub IsRow-take : (field : FieldKind) (width rate : ℕ) (row : List ℕ) → rate ≤ width → IsRow field width row → IsRow field rate (take rate row)
IsRow-take field width rate row within is = record {
  width = length-take-le rate row (omega (arith, is.width));
  elements = All-take (λ element. element < size_of field) rate row is.elements;
}

-- the vectors of rows
pub AreRows-vectors : (field : FieldKind) (width rate : ℕ) (rows : List (List ℕ)) → rate ≤ width → AreRows field width rows → AreRows field rate (vectors rate rows)
AreRows-vectors field width rate [] within are = tt
AreRows-vectors field width rate (row ∷ rows) within are = (IsRow-take field width rate row within are.0, AreRows-vectors field width rate rows within are.1)

-- the vector of a sum is a sum of the vectors
pub IsSum-vectors : (field : FieldKind) (width rate : ℕ) (rows : List (List ℕ)) → rate ≤ width → (row : List ℕ) → IsSum field width rows row
    → IsSum field rate (vectors rate rows) (take rate row)
IsSum-vectors field width rate rows within row is = record {
  coefficients = is.coefficients;
  elements = is.elements;
  count = is.count ∙ sym (length-map rows (take rate));
  sum = sym (take-combination field width rate is.coefficients rows within) ∙ ap (take rate) is.sum;
}

-- the vectors of rows that are sums
each_vector : (field : FieldKind) (width rate : ℕ) (rows others : List (List ℕ)) → rate ≤ width → AllByRecursion (IsSum field width rows) others
    → AllByRecursion (IsSum field rate (vectors rate rows)) (vectors rate others)
each_vector field width rate rows [] within each = tt
each_vector field width rate rows (other ∷ others) within each =
    (IsSum-vectors field width rate rows within other each.0, each_vector field width rate rows others within each.1)

-- rows are sums of rows with the same sums
pub each_of_same : (field : FieldKind) (width : ℕ) (rows others : List (List ℕ)) → AreRows field width rows → HaveSameSums field width rows others
    → AllByRecursion (IsSum field width others) rows
each_of_same field width rows others are same = all_by_places (IsSum field width others) rows (λ i below. (same (get_or rows i [])).0 (IsSum-get_or field width rows are i below))

-- the vectors of rows with the same sums have the same sums
pub HaveSameSums-vectors : (field : FieldKind) (width rate : ℕ) (rows others : List (List ℕ)) → rate ≤ width → AreRows field width rows → AreRows field width others
    → HaveSameSums field width rows others → HaveSameSums field rate (vectors rate rows) (vectors rate others)
HaveSameSums-vectors field width rate rows others within are others_are same =
    same_sums field rate (vectors rate rows) (vectors rate others) (AreRows-vectors field width rate rows within are) (AreRows-vectors field width rate others within others_are)
    (each_vector field width rate others rows within (each_of_same field width rows others are same))
    (each_vector field width rate rows others within (each_of_same field width others rows others_are (HaveSameSums-back field width rows others same)))

-- a sum of multiples of rows, put before them, adds no sum
pub HaveSameSums-sum : (field : FieldKind) (width : ℕ) (rows : List (List ℕ)) (row : List ℕ) → AreRows field width rows → IsRow field width row → IsSum field width rows row
    → HaveSameSums field width rows (row ∷ rows)
HaveSameSums-sum field width rows row are is sum =
    same_sums field width rows (row ∷ rows) are (is, are) (each_IsSum field width (row ∷ rows) (is, are)).1 (sum, each_IsSum field width rows are)
