-- What reads and writes of entries do to a matrix.
use Rattle.std.proofs.Common.{◌≡◌, ◌≢◌, ◌⊎◌, inl, inr, ℕ, ◌+◌, ◌*◌, ◌-◌, ◌<◌, ◌≤◌, List, [], length, get_or, set, take, drop, replicate, sym, subst, ap, ◌∙◌, arith, slice_range}
use Rattle.std.proofs.Math.Path.{ap₂}
use Rattle.std.specs.List.{All}
use Rattle.std.proofs.lemmas.Bool.{cases_lt}
use Rattle.std.proofs.lemmas.List.{length-set, length-replicate}
use Rattle.std.proofs.lemmas.List.Elements.{All-set, All-get_or, All-replicate}
use Rattle.item_list.proofs.Places.{row_end}
use Rattle.field_vectors.proofs.CutLaws.{length-cut, get_or-cut, cut-with_part, cut-set, cut-replicate, cut-widths, cut-elements, entries-IsMatrix, with_part-AreEntries}
use Rattle.field_vectors.specs.Cut.{cut, grid_in, AreEntries, with_part}
use Rattle.field_vectors.specs.Grid.{Grid, IsMatrix, with_row, grid_of}

-- entries that are all zeros
pub grid_in-zeros : {A : Type 0} (count width : ℕ) (entries : List A) (n : ℕ) (value : A) → entries ≡ replicate n value → n ≡ count * width + 0
    → grid_in count width entries ≡ grid_of count width value
grid_in-zeros {A} count width entries n value filled all =
    let same : n ≡ count * width = omega arith in
    let make : List (List A) → Grid A = λ rows. record { columns = width; rows = rows } in
    ap make (ap (cut count width) (filled ∙ ap (λ k. replicate k value) same) ∙ cut-replicate count width value)

-- and they are the entries of a matrix where the value is an element
pub zeros-entries : {A : Type 0} (P : A → Type 0) (count width : ℕ) (entries : List A) (n : ℕ) (value : A) → P value → entries ≡ replicate n value → n ≡ count * width + 0
    → AreEntries P count width entries
zeros-entries P count width entries n value element filled all = record {
  all = omega (arith, ap length filled, length-replicate n value);
  elements = rw filled (All-replicate P n value element);
}

-- a range of entries is a row
pub range-row : {A : Type 0} (count width i start end : ℕ) (entries : List A) → i < count → start ≡ i * width + 0 → end ≡ i * width + width
    → slice_range entries start end ≡ get_or (cut count width entries) i []
range-row count width i start end entries below from to =
    let first : start ≡ i * width = omega arith in
    let long : end - start ≡ width = omega arith in
    ap₂ (λ n s. take n (drop s entries)) long first ∙ sym (get_or-cut count width i entries below)

-- a row of entries ends within them
pub range-within : {A : Type 0} (P : A → Type 0) (count width i end : ℕ) (entries : List A) → i < count → end ≡ i * width + width → AreEntries P count width entries → end ≤ length entries
range-within P count width i end entries below to h = let fits = row_end i count width below in omega (arith, h.all)

-- one of two different numbers is below the other
pub apart_cases : (i j : ℕ) → i ≢ j → (i < j) ⊎ (j < i)
apart_cases i j other = elim (cases_lt i j) [ inl p ↦ inl p | inr p ↦ inr (omega arith) ]

-- different rows stand apart
pub rows_apart : (width i j start end from to : ℕ) → i ≢ j → start ≡ i * width + 0 → end ≡ i * width + width → from ≡ j * width + 0 → to ≡ j * width + width
    → (end ≤ from) ⊎ (to ≤ start)
rows_apart width i j start end from to other a b c d =
    elim (apart_cases i j other) [ inl p ↦ (let fits = row_end i j width p in inl (omega arith)) | inr p ↦ (let fits = row_end j i width p in inr (omega arith)) ]

-- another row at a place
pub grid_in-with_part : {A : Type 0} (P : A → Type 0) (count width i start : ℕ) (entries part now : List A) → i < count → start ≡ i * width + 0 → AreEntries P count width entries
    → length part ≡ width → now ≡ with_part entries start part → grid_in count width now ≡ with_row (grid_in count width entries) i part
grid_in-with_part {A} P count width i start entries part now below from h same written =
    let first : start ≡ i * width = omega arith in
    let make : List (List A) → Grid A = λ rows. record { columns = width; rows = rows } in
    ap make (ap (cut count width) (written ∙ ap (λ s. with_part entries s part) first) ∙ cut-with_part count width i entries part below h.all same)

-- and the entries that then stand there
pub with_part-entries : {A : Type 0} (P : A → Type 0) (count width i start : ℕ) (entries part now : List A) → i < count → start ≡ i * width + 0 → AreEntries P count width entries
    → length part ≡ width → All P part → now ≡ with_part entries start part → AreEntries P count width now
with_part-entries {A} P count width i start entries part now below from h same elements written =
    let first : start ≡ i * width = omega arith in
    rw (written ∙ ap (λ s. with_part entries s part) first) (with_part-AreEntries P count width i entries part below h same elements)

-- another entry at a place
pub grid_in-set : {A : Type 0} (count width i j place : ℕ) (entries now : List A) (value : A) → i < count → j < width → place ≡ i * width + j → now ≡ set entries place value
    → grid_in count width now ≡ with_row (grid_in count width entries) i (set (get_or (cut count width entries) i []) j value)
grid_in-set {A} count width i j place entries now value below inside at written =
    let make : List (List A) → Grid A = λ rows. record { columns = width; rows = rows } in
    ap make (ap (cut count width) (written ∙ ap (λ p. set entries p value) at) ∙ cut-set count width i j entries value below inside)

-- and the entries that then stand there
pub set-entries : {A : Type 0} (P : A → Type 0) (count width place : ℕ) (entries : List A) (value : A) → AreEntries P count width entries → P value
    → AreEntries P count width (set entries place value)
set-entries P count width place entries value h element = record {
  all = length-set entries place value ∙ h.all;
  elements = All-set P entries place value element h.elements;
}

-- row i of a matrix is one of its rows
pub row_below : {A : Type 0} (count width i : ℕ) (entries : List A) (m : Grid A) → grid_in count width entries ≡ m → i < length m.rows → i < count
row_below {A} count width i entries m shown below =
    let rows : length (cut count width entries) ≡ length m.rows = ap (λ (g : Grid A). length g.rows) shown in
    omega (arith, rows, length-cut count width entries)

-- a matrix has as many columns as it shows
pub columns_are : {A : Type 0} (count width : ℕ) (entries : List A) (m : Grid A) → grid_in count width entries ≡ m → width ≡ m.columns
columns_are {A} count width entries m shown = ap (λ (g : Grid A). g.columns) shown

-- and what it shows is a matrix of elements
pub shown-IsMatrix : {A : Type 0} (P : A → Type 0) (count width : ℕ) (entries : List A) (m : Grid A) → grid_in count width entries ≡ m → AreEntries P count width entries → IsMatrix P m
shown-IsMatrix P count width entries m shown h = subst (IsMatrix P) shown (entries-IsMatrix P count width entries h)

-- a row has an entry for each column
pub row-width : {A : Type 0} (P : A → Type 0) (count width i : ℕ) (entries : List A) → i < count → AreEntries P count width entries → length (get_or (cut count width entries) i []) ≡ width
row-width {A} P count width i entries below h =
    let inside : i < length (cut count width entries) = omega (arith, length-cut count width entries) in
    All-get_or (λ (row : List A). length row ≡ width) (cut count width entries) i [] inside (cut-widths count width entries h.all)

-- and each is an element
pub row-elements : {A : Type 0} (P : A → Type 0) (count width i : ℕ) (entries : List A) → i < count → AreEntries P count width entries → All P (get_or (cut count width entries) i [])
row-elements P count width i entries below h =
    let inside : i < length (cut count width entries) = omega (arith, length-cut count width entries) in
    All-get_or (All P) (cut count width entries) i [] inside (cut-elements P count width entries h.elements)
