-- Laws of the elements of rows of bytes.
use Rattle.std.specs.Prelude.{◌≡◌, ℕ, zero, suc, ◌+◌, ◌*◌, ◌/◌, ◌%◌, ◌<◌, ◌≤◌, List, [], ◌∷◌, length, replicate, set}
use Rattle.std.proofs.Common.{arith, refl, sym, ap, ◌∙◌, get_or, inl, inr}
use Rattle.std.proofs.Math.Path.{ap₂}
use Rattle.std.proofs.lemmas.Bool.{cases_eq, eq-eqb, ne_eqb}
use Rattle.std.proofs.lemmas.List.{ext_get_or, get_or-map, get_or-set_other, get_or-set_same, get_or_read, length-replicate, length-set}
use Rattle.std.proofs.lemmas.List.Elements.{All-from_get_or}
use Rattle.gf_tables.specs.Product.{bytes_of_element, bytes_of_width, width_of}
use Rattle.gf_tables.specs.declared.kind.FieldKind.{FieldKind}
use Rattle.gf_tables.specs.declared.kind.Width.TheVariants.{One, Two}
use Rattle.linear_algebra.proofs.ElementsLaws.{elements_of-IsRow, elements_of-zero_row, length-elements_of}
use Rattle.linear_algebra.proofs.RowLaws.{slice_index-unit_row, slice_index-zero_row, unit_row-IsRow}
use Rattle.linear_algebra.specs.Elements.{elements_of, pairs_of_bytes}
use Rattle.linear_algebra.specs.Rows.{unit_row, zero_row, IsRow}
use Rattle.field_rows.specs.Widths.{rows_in, width_in}

-- an even number of bytes is that of whole elements
pub even_whole : (field : FieldKind) (bytes : ℕ) → bytes % 2 ≡ 0 → bytes % bytes_of_element field ≡ 0
even_whole field =
    elim (width_of field) as (λ width. (bytes : ℕ) → bytes % 2 ≡ 0 → bytes % bytes_of_width width ≡ 0) [
      | One ↦ λ bytes even. omega arith
      | Two ↦ λ bytes even. even
    ]

-- and as many times that of one as there are elements
pub even_bytes : (field : FieldKind) (bytes : ℕ) → bytes % 2 ≡ 0 → bytes ≡ bytes_of_element field * width_in field bytes
even_bytes field =
    elim (width_of field) as (λ width. (bytes : ℕ) → bytes % 2 ≡ 0 → bytes ≡ bytes_of_width width * (bytes / bytes_of_width width)) [
      | One ↦ λ bytes even. omega arith
      | Two ↦ λ bytes even. omega arith
    ]

-- the number of elements of so many bytes
pub length-elements_in : (field : FieldKind) (bytes : ℕ) (row : List ℕ) → bytes % 2 ≡ 0 → length row ≡ bytes → length (elements_of field row) ≡ width_in field bytes
length-elements_in field bytes row even long = length-elements_of field (width_in field bytes) row (long ∙ even_bytes field bytes even)

-- they are a row
pub IsRow-elements_in : (field : FieldKind) (bytes : ℕ) (row : List ℕ) → bytes % 2 ≡ 0 → length row ≡ bytes → ((k : ℕ) → get_or row k 0 < 256)
    → IsRow field (width_in field bytes) (elements_of field row)
IsRow-elements_in field bytes row even long fits =
    elements_of-IsRow field (width_in field bytes) row (All-from_get_or (λ byte. byte < 256) row 0 (λ k inside. fits k)) (long ∙ even_bytes field bytes even)

-- the elements of a row among others
pub get_or-rows_in : (field : FieldKind) (rows : List (List ℕ)) (k : ℕ) (row : List ℕ) → k < length rows → row ≡ get_or rows k row
    → get_or (rows_in field rows) k [] ≡ elements_of field row
get_or-rows_in field rows k row inside is =
    get_or-map (elements_of field) rows k [] [] inside ∙ ap (elements_of field) (sym (get_or_read rows k row inside is []))

-- the elements of so many zeros
pub elements_of-zeros : (field : FieldKind) (bytes : ℕ) → bytes % 2 ≡ 0 → elements_of field (zero_row bytes) ≡ zero_row (width_in field bytes)
elements_of-zeros field bytes even = ap (λ n. elements_of field (zero_row n)) (even_bytes field bytes even) ∙ elements_of-zero_row field (width_in field bytes)

-- there is room for 32 elements in 64 bytes, and in more
pub room_in : (field : FieldKind) (bytes rate : ℕ) → 64 ≤ bytes → rate ≤ 32 → rate ≤ width_in field bytes
room_in field =
    elim (width_of field) as (λ width. (bytes rate : ℕ) → 64 ≤ bytes → rate ≤ 32 → rate ≤ bytes / bytes_of_width width) [
      | One ↦ λ bytes rate long few. omega arith
      | Two ↦ λ bytes rate long few. omega arith
    ]

-- an element put in the place of another
pub pairs_of_bytes-set : (n k high low : ℕ) (bytes : List ℕ) → length bytes ≡ 2 * n → k < n
    → pairs_of_bytes (set (set bytes (2 * k) high) (2 * k + 1) low) ≡ set (pairs_of_bytes bytes) k (256 * high + low)
pairs_of_bytes-set n k high low [] even below = absurd (omega arith)
pairs_of_bytes-set n k high low (first ∷ []) even below = absurd (omega arith)
pairs_of_bytes-set zero k high low (first ∷ second ∷ bytes) even below = absurd (omega arith)
pairs_of_bytes-set (suc n) zero high low (first ∷ second ∷ bytes) even below = refl
pairs_of_bytes-set (suc n) (suc k) high low (first ∷ second ∷ bytes) even below =
    let one : 2 * suc k ≡ suc (suc (2 * k)) = omega arith in
    let two : 2 * suc k + 1 ≡ suc (suc (2 * k + 1)) = omega arith in
    rw (two, one) (ap (λ row. (256 * first + second) ∷ row) (pairs_of_bytes-set n k high low bytes (omega arith) (omega arith)))

-- the elements of so many rows of zeros
pub rows_in-zeros : (field : FieldKind) (bytes n : ℕ) → bytes % 2 ≡ 0 → rows_in field (replicate n (zero_row bytes)) ≡ replicate n (zero_row (width_in field bytes))
rows_in-zeros field bytes zero even = refl
rows_in-zeros field bytes (suc n) even = ap₂ ◌∷◌ (elements_of-zeros field bytes even) (rows_in-zeros field bytes n even)

-- zeros with a one put in a place are a unit row
pub zero_row-set : (field : FieldKind) (width place : ℕ) → place < width → set (zero_row width) place 1 ≡ unit_row width place
zero_row-set field width place below =
    let row = set (zero_row width) place 1 in
    let zeros : length (zero_row width) ≡ width = length-replicate {A = ℕ} width 0 in
    let long : length row ≡ width = length-set (zero_row width) place 1 ∙ zeros in
    ext_get_or 0 row (unit_row width place) (long ∙ sym (unit_row-IsRow field width place).width)
    (λ k inside.
    let within : k < width = omega (arith, inside, long) in
    sym (slice_index-unit_row width place k within ∙ sym (elim (cases_eq place k) [
      | inl same ↦ rw (eq-eqb place k same, ← same) (get_or-set_same (zero_row width) place 1 0 (omega (arith, below, zeros)))
      | inr other ↦
          rw (ne_eqb place k other) (get_or-set_other (zero_row width) place k 1 0 (λ e. other (sym e)) ∙ slice_index-zero_row width k)
    ])))
