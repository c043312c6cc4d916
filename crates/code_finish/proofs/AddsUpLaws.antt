-- Rows that add up: zeros, sums and multiples do too, and so does each sum of multiples. A row that adds up over vectors adds up
-- over one more, and so does the row of that one.
use Rattle.std.specs.Prelude.{◌≡◌, ◌<◌, ◌≤◌, ◌+◌, ◌-◌, ◌==◌, ℕ, zero, suc, List, [], ◌∷◌, ◌++◌, drop, if◌then◌else◌, length, map, take}
use Rattle.std.specs.List.{AllByRecursion, range_with_len}
use Rattle.std.proofs.Common.{arith, refl, sym, ap, ◌∙◌}
use Rattle.std.proofs.Math.Path.{ap₂}
use Rattle.std.proofs.lemmas.List.{append_assoc, drop-map, drop-replicate, drop_at, get_or_at, length-append, length-drop, length-replicate, length-take-le, take-map, take-replicate, take_at}
use Rattle.std.proofs.lemmas.List.Elements.{All-drop, All-take}
use Rattle.std.proofs.lemmas.List.FromFn.{take-map-range_with_len}
use Rattle.gf_tables.specs.Product.{product, size_of}
use Rattle.gf_tables.specs.declared.kind.FieldKind.{FieldKind}
use Rattle.linear_algebra.proofs.CombinationLaws.{combination-add_rows, combination-scale_row, combination-unit_row, combination-zero_row}
use Rattle.linear_algebra.proofs.RowLaws.{AreRows-append, add_rows-IsRow, drop-add_rows, scale_row-IsRow, scale_row-zero, scale_row-zero_row, take-add_rows, unit_row-before, zero_row-IsRow, zero_row-zero_row}
use Rattle.linear_algebra.specs.Rows.{AreElements, AreRows, IsRow, add_rows, combination, scale_row, unit_row, zero_row}
use Rattle.row_spans.proofs.SumLaws.{holds_of_sum}
use Rattle.row_spans.specs.Spans.{IsSum}
use Rattle.code_finish.specs.Taken.{AddsUp, IsRowOf, behind, coefficients_of}

-- a row has as many coefficients as are asked for
pub length-coefficients_of : (count : ℕ) (row : List ℕ) → count ≤ 32 → length row ≡ 64
    → length (coefficients_of count row) ≡ count
length-coefficients_of count row few wide =
    length-take-le count (behind row) (omega (arith, length-drop 32 row, wide, few))

-- the vectors of links are rows
pub AreRows-vectors_of : (field : FieldKind) (rate : ℕ) (vector : ℕ → List ℕ) → ((e : ℕ) → IsRow field rate (vector e)) → (links : List ℕ) → AreRows field rate (map vector links)
AreRows-vectors_of field rate vector are [] = tt
AreRows-vectors_of field rate vector are (link ∷ links) = (are link, AreRows-vectors_of field rate vector are links)

-- what holds of each row of elements, where something holds of each
pub each_more : (field : FieldKind) (width : ℕ) (P Q : List ℕ → Type 0) → ((row : List ℕ) → IsRow field width row → P row → Q row) → (rows : List (List ℕ)) → AreRows field width rows
    → AllByRecursion P rows → AllByRecursion Q rows
each_more field width P Q more [] are each = tt
each_more field width P Q more (row ∷ rows) are each = (more row are.0 each.0, each_more field width P Q more rows are.1 each.1)

module _ (field : FieldKind) (rate : ℕ) (low : rate ≤ 32) (kept : List (List ℕ)) (kept_are : AreRows field rate kept) (few : length kept ≤ rate) where
  abbrev wide : ℕ
  wide = 64

  abbrev place : ℕ
  place = 32

  abbrev Adds : List ℕ → Type 0
  Adds row = IsRow field wide row × AddsUp field rate kept row

  -- the coefficients of a row are elements, one for each vector
  coefficients-elements : (row : List ℕ) → IsRow field wide row → AreElements field (coefficients_of (length kept) row)
  coefficients-elements row is =
      let P : ℕ → Type 0 = λ element. element < size_of field in
      All-take P (length kept) (behind row) (All-drop P place row is.elements)

  length-coefficients : (row : List ℕ) → IsRow field wide row → length (coefficients_of (length kept) row) ≡ length kept
  length-coefficients row is = length-coefficients_of (length kept) row (omega (arith, few, low)) is.width

  -- zeros add up
  adds-zero_row : Adds (zero_row wide)
  adds-zero_row =
      let n = length kept in
      let none : coefficients_of n (zero_row wide) ≡ zero_row n =
      ap (take n) (drop-replicate place wide 0) ∙ take-replicate n (wide - place) 0 (omega (arith, few, low))
      in (
        zero_row-IsRow field wide,
        record {
          sum = take-replicate rate wide 0 (omega (arith, low))
              ∙ sym (ap (λ (times : List ℕ). combination field rate times kept) none ∙ combination-zero_row field rate n kept kept_are);
          zeros = ap (drop n) (drop-replicate place wide 0) ∙ drop-replicate n (wide - place) 0;
        },
      )

  -- sums of rows that add up do
  adds-add_rows : (xs ys : List ℕ) → Adds xs → Adds ys → Adds (add_rows xs ys)
  adds-add_rows xs ys x y =
      let n = length kept in
      let same : length xs ≡ length ys = x.0.width ∙ sym y.0.width in
      let rest = drop-add_rows place xs ys same in
      let long : length (behind xs) ≡ length (behind ys) = omega (arith, length-drop place xs, length-drop place ys, same) in
      let times : coefficients_of n (add_rows xs ys) ≡ add_rows (coefficients_of n xs) (coefficients_of n ys) =
      ap (take n) rest ∙ take-add_rows n (behind xs) (behind ys)
      in (
        add_rows-IsRow field wide xs ys x.0 y.0,
        record {
          sum = take-add_rows rate xs ys
              ∙ ap₂ add_rows x.1.sum y.1.sum
              ∙ sym (ap (λ (times : List ℕ). combination field rate times kept) times
              ∙ combination-add_rows field rate (coefficients_of n xs) (coefficients_of n ys) kept (coefficients-elements xs x.0) (coefficients-elements ys y.0)
              (length-coefficients xs x.0 ∙ sym (length-coefficients ys y.0)) kept_are);
          zeros = ap (drop n) rest ∙ drop-add_rows n (behind xs) (behind ys) long ∙ ap₂ add_rows x.1.zeros y.1.zeros ∙ zero_row-zero_row (place - n);
        },
      )

  -- multiples of rows that add up do
  adds-scale_row : (a : ℕ) (row : List ℕ) → a < size_of field → Adds row → Adds (scale_row field a row)
  adds-scale_row a row below x =
      let n = length kept in
      let rest = drop-map (product field a) place row in
      let times : coefficients_of n (scale_row field a row) ≡ scale_row field a (coefficients_of n row) =
      ap (take n) rest ∙ take-map (product field a) n (behind row)
      in (
        scale_row-IsRow field wide a row below x.0,
        record {
          sum = take-map (product field a) rate row
              ∙ ap (scale_row field a) x.1.sum
              ∙ sym (ap (λ (times : List ℕ). combination field rate times kept) times
              ∙ combination-scale_row field rate a (coefficients_of n row) kept below (coefficients-elements row x.0) kept_are);
          zeros = ap (drop n) rest ∙ drop-map (product field a) n (behind row) ∙ ap (scale_row field a) x.1.zeros ∙ scale_row-zero_row field a (place - n) below;
        },
      )

  -- a sum of multiples of rows that add up does
  pub AddsUp-IsSum : (rows : List (List ℕ)) → AreRows field 64 rows → AllByRecursion (AddsUp field rate kept) rows
      → (row : List ℕ) → IsSum field 64 rows row → AddsUp field rate kept row
  AddsUp-IsSum rows are each row is =
      (holds_of_sum field wide Adds adds-zero_row adds-add_rows adds-scale_row rows (each_more field wide (AddsUp field rate kept) Adds (λ one one_is adds. (one_is, adds)) rows are each) row is).1

-- one element more before zeros, where zeros stand
take_zero : (n m : ℕ) (xs : List ℕ) → drop n xs ≡ zero_row (suc m) → (take (suc n) xs ≡ take n xs ++ 0 ∷ []) × (drop (suc n) xs ≡ zero_row m)
take_zero zero m xs zeros = rw zeros (refl, refl)
take_zero (suc n) m [] zeros = absurd (cc)
take_zero (suc n) m (x ∷ xs) zeros = let rest = take_zero n m xs zeros in (ap (λ (some : List ℕ). x ∷ some) rest.0, rest.1)

-- the elements of a unit row behind its place
drop-unit_row_from : (i a n k : ℕ) → i < a + k → drop k (map (λ j. if i == j then 1 else 0) (range_with_len a n)) ≡ zero_row (n - k)
drop-unit_row_from i a n zero before = rw (let e : n - 0 ≡ n = omega arith in e) (unit_row-before i a n (omega arith))
drop-unit_row_from i a zero (suc k) before = rw (let e : 0 - suc k ≡ 0 = omega arith in e) refl
drop-unit_row_from i a (suc n) (suc k) before = rw (let e : suc n - suc k ≡ n - k = omega arith in e) (drop-unit_row_from i (a + 1) n k (omega arith))

-- the vector of the row of a link
pub take-row_of : (rate count : ℕ) (vector row : List ℕ) → length vector ≡ rate → IsRowOf vector count row → take rate row ≡ vector
take-row_of rate count vector row long is =
    let zeros = zero_row (32 - length vector) in
    let units = unit_row 32 count in
    ap (take rate) (is ∙ append_assoc vector zeros units) ∙ take_at vector (zeros ++ units) rate long

-- what stands behind it
behind-row_of : (count : ℕ) (vector row : List ℕ) → length vector ≤ 32 → IsRowOf vector count row → behind row ≡ unit_row 32 count
behind-row_of count vector row within is =
    let zeros = zero_row (32 - length vector) in
    ap (drop 32) is
    ∙ drop_at (vector ++ zeros) (unit_row 32 count) 32
    (length-append vector zeros ∙ omega (arith, length-replicate {A = ℕ} (32 - length vector) 0, within))

-- one coefficient zero more
combination-zero_more : (field : FieldKind) (width : ℕ) (coefficients : List ℕ) (rows : List (List ℕ)) (row : List ℕ) → length coefficients ≡ length rows → length row ≡ width
    → combination field width (coefficients ++ 0 ∷ []) (rows ++ row ∷ []) ≡ combination field width coefficients rows
combination-zero_more field width [] [] row same long = rw (scale_row-zero field row, long) (zero_row-zero_row width)
combination-zero_more field width [] (other ∷ rows) row same long = absurd (omega arith)
combination-zero_more field width (times ∷ coefficients) [] row same long = absurd (omega arith)
combination-zero_more field width (times ∷ coefficients) (other ∷ rows) row same long =
    ap (add_rows (scale_row field times other)) (combination-zero_more field width coefficients rows row (omega arith) long)

module _ (field : FieldKind) (rate : ℕ) (low : rate ≤ 32) (kept : List (List ℕ)) (kept_are : AreRows field rate kept) (few : length kept < rate) (vector : List ℕ) (is : IsRow field rate vector) where
  -- a row that adds up over vectors adds up over one more
  pub AddsUp-more : (row : List ℕ) → IsRow field 64 row → AddsUp field rate kept row → AddsUp field rate (kept ++ vector ∷ []) row
  AddsUp-more row row_is adds =
      let n = length kept in
      let more = kept ++ vector ∷ [] in
      let count : length more ≡ suc n = omega (arith, length-append kept (vector ∷ [])) in
      let one_less : 32 - n ≡ suc (32 - suc n) = omega (arith, few, low) in
      let zero = take_zero n (32 - suc n) (behind row) (adds.zeros ∙ ap zero_row one_less) in
      record {
        sum = adds.sum
            ∙ sym (ap (λ (k : ℕ). combination field rate (take k (behind row)) more) count
            ∙ ap (λ (times : List ℕ). combination field rate times more) zero.0
            ∙ combination-zero_more field rate (coefficients_of n row) kept vector (length-coefficients field rate low kept kept_are (omega (arith, few)) row row_is) is.width);
        zeros = ap (λ (k : ℕ). drop k (behind row)) count ∙ zero.1 ∙ ap (λ (k : ℕ). zero_row (32 - k)) (sym count);
      }

  -- and so does the row of that one
  pub AddsUp-row_of : (row : List ℕ) → IsRowOf vector (length kept) row → AddsUp field rate (kept ++ vector ∷ []) row
  AddsUp-row_of row row_is =
      let n = length kept in
      let more = kept ++ vector ∷ [] in
      let count : length more ≡ suc n = omega (arith, length-append kept (vector ∷ [])) in
      let rest = behind-row_of n vector row (omega (arith, is.width, low)) row_is in
      let times : coefficients_of (length more) row ≡ unit_row (length more) n =
      ap (take (length more)) rest ∙ take-map-range_with_len (λ j. if n == j then 1 else 0) 0 32 (length more) (omega (arith, count, few, low))
      in
      record {
        sum = take-row_of rate n vector row is.width row_is
            ∙ sym (ap (λ (times : List ℕ). combination field rate times more) times
            ∙ combination-unit_row field rate (length more) n more (omega (arith, count)) refl (AreRows-append field rate kept (vector ∷ []) kept_are (is, tt))
            ∙ get_or_at kept vector [] [] n refl);
        zeros = ap (drop (length more)) rest ∙ drop-unit_row_from n 0 32 (length more) (omega (arith, count));
      }
