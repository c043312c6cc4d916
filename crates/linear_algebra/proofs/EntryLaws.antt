-- Laws of matrices whose entries stand row by row.
use Rattle.std.specs.Prelude.{◌≡◌, ℕ, zero, suc, ◌+◌, ◌*◌, ◌<◌, ◌≤◌, List, [], length, map, take, drop, slice_index}
use Rattle.std.proofs.Common.{arith, refl, ap, ◌∙◌, get_or, add-one, suc-mul}
use Rattle.std.proofs.Math.Seq.{take-add}
use Rattle.std.proofs.lemmas.List.{length-take-le, length-drop, get_or-take, get_or-drop, drop-drop, take_all}
use Rattle.std.proofs.lemmas.List.Elements.{All-take, All-drop}
use Rattle.std.proofs.lemmas.List.FromFn.{get_or-map-range_with_len}
use Rattle.std.specs.List.{range_with_len, concat}
pub use Rattle.item_list.proofs.Places.{row_end, place_within}
use Rattle.gf_tables.specs.Product.{size_of}
use Rattle.gf_tables.specs.declared.kind.FieldKind.{FieldKind}
use Rattle.linear_algebra.specs.Matrices.{rows_of}
use Rattle.linear_algebra.specs.Rows.{AreElements, AreRows}

-- the place of the next row
next_place : (a width : ℕ) → (a + 1) * width ≡ a * width + width
next_place a width = ap (λ k. k * width) (add-one a) ∙ suc-mul a width

-- the row that begins at a place of entries of elements
rows_from : (field : FieldKind) (width a n count : ℕ) (entries : List ℕ) → a + n ≤ count → count * width ≤ length entries → AreElements field entries
    → AreRows field width (map (λ i. take width (drop (i * width) entries)) (range_with_len a n))
rows_from field width a zero count entries within long h = tt
rows_from field width a (suc n) count entries within long h =
    let P : ℕ → Type 0 = λ element. element < size_of field in
    let ends : a * width + width ≤ count * width = row_end a count width (omega arith) in
    let room : width ≤ length (drop (a * width) entries) = omega (arith, length-drop (a * width) entries) in (
      record {
        width = length-take-le width (drop (a * width) entries) room;
        elements = All-take P width (drop (a * width) entries) (All-drop P (a * width) entries h);
      },
      rows_from field width (a + 1) n count entries (omega arith) long h,
    )

-- entries of elements, cut into rows
pub rows_of-AreRows : (field : FieldKind) (count width : ℕ) (entries : List ℕ) → count * width ≤ length entries → AreElements field entries
    → AreRows field width (rows_of count width entries)
rows_of-AreRows field count width entries long h = rows_from field width 0 count count entries (omega arith) long h

-- a row of entries that are cut into rows
pub get_or-rows_of : (count width i : ℕ) (entries : List ℕ) → i < count → get_or (rows_of count width entries) i [] ≡ take width (drop (i * width) entries)
get_or-rows_of count width i entries below = get_or-map-range_with_len (λ i. take width (drop (i * width) entries)) 0 count i i [] below (omega arith)

-- an entry of entries that are cut into rows
pub slice_index-rows_of : (count width i j : ℕ) (entries : List ℕ) → i < count → j < width
    → slice_index (get_or (rows_of count width entries) i []) j ≡ slice_index entries (i * width + j)
slice_index-rows_of count width i j entries below inside =
    ap (λ (row : List ℕ). slice_index row j) (get_or-rows_of count width i entries below)
    ∙ get_or-take width (drop (i * width) entries) j 0 inside ∙ get_or-drop (i * width) entries j 0

-- the rows of entries, joined
concat_from : (width a n : ℕ) (entries : List ℕ) → concat (map (λ i. take width (drop (i * width) entries)) (range_with_len a n)) ≡ take (n * width) (drop (a * width) entries)
concat_from width a zero entries = let none : 0 * width ≡ 0 = omega arith in rw none refl
concat_from width a (suc n) entries =
    let more : suc n * width ≡ width + n * width = omega (arith, suc-mul n width) in
    let next : a * width + width ≡ (a + 1) * width = omega (arith, next_place a width) in
    rw (more, concat_from width (a + 1) n entries, take-add width (n * width) (drop (a * width) entries), drop-drop width (a * width) entries, next) refl

-- entries that are cut into rows, joined again
pub concat-rows_of : (count width : ℕ) (entries : List ℕ) → length entries ≡ count * width → concat (rows_of count width entries) ≡ entries
concat-rows_of count width entries long =
    let none : 0 * width ≡ 0 = omega arith in
    concat_from width 0 count entries ∙ ap (λ k. take (count * width) (drop k entries)) none ∙ take_all (count * width) entries (omega arith)
