-- How a link is taken in, by the row that is made of it, and how the entries of a decoder are made, row by row.
use Rattle.std.specs.Prelude.{◌≡◌, ◌<◌, ◌≤◌, ◌+◌, ◌-◌, ◌*◌, ◌/◌, ◌%◌, ℕ, List, [], ◌∷◌, ◌++◌, drop, length, suc, take}
use Rattle.std.proofs.Common.{add-one, arith, refl, suc-mul, sym, ap, inl, inr, subst, ◌∙◌}
use Rattle.std.proofs.Math.Path.{ap₂}
use Rattle.std.proofs.Math.Seq.{take-append-add}
use Rattle.std.proofs.lemmas.Bool.{cases_lt}
use Rattle.std.proofs.lemmas.List.{drop-append-le, drop_at, length-append, length-drop, take-append-le, take-replicate, take_all}
use Rattle.std.proofs.lemmas.List.Elements.{All-append}
use Rattle.field_rows.specs.Widths.{width_in}
use Rattle.gf_tables.specs.Product.{bytes_of_element, bytes_of_width, size_of, width_of}
use Rattle.gf_tables.specs.declared.kind.FieldKind.{FieldKind}
use Rattle.gf_tables.specs.declared.kind.Width.TheVariants.{One, Two}
use Rattle.linear_algebra.proofs.EntryLaws.{get_or-rows_of, row_end}
use Rattle.linear_algebra.proofs.MatrixLaws.{length-rows_of}
use Rattle.linear_algebra.specs.Elements.{elements_of}
use Rattle.linear_algebra.specs.Matrices.{rows_of}
use Rattle.linear_algebra.specs.Rows.{AreElements, AreRows, IsRow, unit_row, zero_row}
use Rattle.link_rows.proofs.WideLaws.{wide_room}
use Rattle.link_rows.specs.Vectors.{wide_width, widened}
use Rattle.row_spans.specs.Spans.{HaveSameSums, IsSum, vectors}
use Rattle.code_finish.proofs.AddsUpLaws.{length-coefficients_of}
use Rattle.code_finish.proofs.TakenLaws.{row_vector, taken_more, taken_same}
use Rattle.code_finish.specs.Solved.{AreUnitSums}
use Rattle.code_finish.specs.Taken.{AreTaken, IsRowOf, coefficients_of, taken_bytes}

-- a link is taken in, by the bytes of its vector: what stands of those before stands of it too
abbrev pub IsTakenIn : FieldKind → ℕ → List ℕ → ℕ → List ℕ → List (List ℕ) → List ℕ → List (List ℕ) → Type 0
IsTakenIn field rate bytes link old_kept old kept new =
    (vector_of : ℕ → List ℕ) (earlier : List ℕ) → ((e : ℕ) → IsRow field rate (vector_of e)) → elements_of field bytes ≡ widened field (vector_of link)
    → AreTaken field rate vector_of earlier old_kept old → AreTaken field rate vector_of (link ∷ earlier) kept new

-- the bytes of a row are those of 64 elements
pub taken_width : (field : FieldKind) (bytes : ℕ) → bytes ≡ taken_bytes field → width_in field bytes ≡ 64
taken_width field bytes whole =
    ap (width_in field) whole ∙ elim (width_of field) as (λ width. (64 * bytes_of_width width) / bytes_of_width width ≡ 64) [ One ↦ refl | Two ↦ refl ]

-- and half of them those of 32
pub half_bytes : (field : FieldKind) (bytes : ℕ) → bytes ≡ taken_bytes field → bytes / 2 ≡ bytes_of_element field * 32
half_bytes field bytes whole = omega (arith, whole)

pub half_width : (field : FieldKind) (bytes : ℕ) → bytes ≡ bytes_of_element field * 32 → (width_in field bytes ≡ 32) × (bytes % bytes_of_element field ≡ 0)
half_width field bytes half =
    subst (λ n. (width_in field n ≡ 32) × (n % bytes_of_element field ≡ 0)) (sym half)
    (elim (width_of field) as (λ width. ((bytes_of_width width * 32) / bytes_of_width width ≡ 32) × ((bytes_of_width width * 32) % bytes_of_width width ≡ 0)) [
      | One ↦ (refl, refl)
      | Two ↦ (refl, refl)
    ])

-- the first 32 elements of a vector with zeros behind it
take-widened : (field : FieldKind) (vector : List ℕ) → length vector ≤ 32 → take 32 (widened field vector) ≡ vector ++ zero_row (32 - length vector)
take-widened field vector few =
    let rest = 32 - length vector in
    let whole : 32 ≡ length vector + rest = omega (arith, few) in
    ap (λ n. take n (widened field vector)) whole
    ∙ take-append-add vector (zero_row (wide_width field - length vector)) rest
    ∙ ap (λ (zeros : List ℕ). vector ++ zeros) (take-replicate rest (wide_width field - length vector) 0 (omega (arith, wide_room field)))

module _ (field : FieldKind) (rate : ℕ) (low : rate ≤ 32) (bytes : List ℕ) (place : ℕ) (row : List ℕ) (made : row ≡ take 32 (elements_of field bytes) ++ unit_row 32 place) where
  -- the row is that of the link
  is_row_of : (vector : List ℕ) (count : ℕ) → IsRow field rate vector → elements_of field bytes ≡ widened field vector → place ≡ count → IsRowOf vector count row
  is_row_of vector count is same here =
      made ∙ ap₂ (λ (front : List ℕ) (n : ℕ). front ++ unit_row 32 n) (ap (take 32) same ∙ take-widened field vector (omega (arith, is.width, low))) here

  -- the vector is a sum of multiples: nothing changes
  pub taken_in_same : (link : ℕ) (kept : List ℕ) (rows : List (List ℕ)) → IsSum field rate (vectors rate rows) (take rate row) → IsTakenIn field rate bytes link kept rows kept rows
  taken_in_same link kept rows sum = λ vector_of earlier are same taken.
      taken_same field rate low vector_of are earlier kept rows taken link row
      (row_vector field rate low vector_of are link place row (is_row_of (vector_of link) place (are link) same refl)) sum

  -- it is none: the link is kept
  pub taken_in_more : (link : ℕ) (kept : List ℕ) (old new : List (List ℕ)) → place ≡ length old → place < rate → IsRow field 64 row
      → ¬ IsSum field rate (vectors rate old) (take rate row) → AreRows field 64 new → HaveSameSums field 64 new (row ∷ old)
      → length new ≡ suc (length old) → IsTakenIn field rate bytes link kept old (kept ++ link ∷ []) new
  taken_in_more link kept old new here few is raises new_are sums count = λ vector_of earlier are same taken.
      let place_is : place ≡ length kept = here ∙ taken.count in
      taken_more field rate low vector_of are earlier kept old taken (omega (arith, place_is, few)) link row new (is_row_of (vector_of link) (length kept) (are link) same place_is) is raises new_are sums count

-- the coefficients behind rows that are unit rows, so many of them
pub record AreEntries (field : FieldKind) (rate : ℕ) (rows : List (List ℕ)) (count : ℕ) (entries : List ℕ) : Type 0 where
  pub count_is : length entries ≡ count * rate
  pub elements : AreElements field entries
  pub sums : (i : ℕ) → i < count
      → (row : List ℕ) × IsSum field 64 rows row × (take rate row ≡ unit_row rate i) × (take rate (drop (i * rate) entries) ≡ coefficients_of rate row)

module _ (field : FieldKind) (rate : ℕ) (rows : List (List ℕ)) where
  -- those of one row more
  pub entries_more : (k : ℕ) (old : List ℕ) → AreEntries field rate rows k old → rate ≤ 32 → (row new : List ℕ) → length row ≡ 64
      → AreElements field (coefficients_of rate row) → IsSum field 64 rows row → take rate row ≡ unit_row rate k → new ≡ old ++ coefficients_of rate row → AreEntries field rate rows (k + 1) new
  entries_more k old are room row new wide coefficients sum unit more =
      let added = coefficients_of rate row in
      let long : length added ≡ rate = length-coefficients_of rate row room wide in
      let size : length new ≡ (k + 1) * rate = ap (length {A = ℕ}) more ∙ omega (arith, length-append old added, long, are.count_is, ap (λ (n : ℕ). n * rate) (add-one k) ∙ suc-mul k rate) in
      record {
        count_is = size;
        elements = subst (AreElements field) (sym more) (All-append (λ element. element < size_of field) old added are.elements coefficients);
        sums = λ i below.
            elim (cases_lt i k) [
              | inl before ↦
                  let inside : i * rate + rate ≤ length old = omega (arith, row_end i k rate before, are.count_is) in
                  let found = are.sums i before in (
                    found.0,
                    found.1,
                    found.2,
                    ap (λ (entries : List ℕ). take rate (drop (i * rate) entries)) more
                        ∙ ap (take rate) (drop-append-le (i * rate) old added (omega (arith, inside)))
                        ∙ take-append-le rate (drop (i * rate) old) added (omega (arith, inside, length-drop (i * rate) old))
                        ∙ found.3,
                  )
              | inr past ↦
                  let here : k ≡ i = omega arith in
                  subst (λ n. (row : List ℕ) × IsSum field 64 rows row × (take rate row ≡ unit_row rate n) × (take rate (drop (n * rate) new) ≡ coefficients_of rate row))
                  here (
                    row,
                    sum,
                    unit,
                    ap (λ (entries : List ℕ). take rate (drop (k * rate) entries)) more
                        ∙ ap (take rate) (drop_at old added (k * rate) are.count_is)
                        ∙ take_all rate added (omega (arith, long)),
                  )
            ];
      }

  -- cut into rows they are the coefficients of unit rows
  pub entries_sums : (entries : List ℕ) → AreEntries field rate rows rate entries → AreUnitSums field rate rows (rows_of rate rate entries)
  entries_sums entries are = λ k inside.
      let below : k < rate = omega (arith, inside, length-rows_of rate rate entries) in
      let found = are.sums k below in
      (found.0, found.1, found.2, get_or-rows_of rate rate k entries below ∙ found.3)
