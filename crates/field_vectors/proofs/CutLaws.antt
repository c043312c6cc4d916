-- Laws of entries cut into rows.
use Rattle.std.proofs.Common.{◌≡◌, ℕ, zero, suc, ◌+◌, ◌*◌, ◌-◌, ◌<◌, ◌≤◌, List, [], ◌∷◌, ◌++◌, length, get_or, set, take, drop, replicate, refl, sym, ap, ◌∙◌, arith, suc-mul}
use Rattle.std.proofs.Math.Nat.{zero-mul}
use Rattle.std.proofs.Math.Path.{ap₂}
use Rattle.std.proofs.Math.Seq.{take-set-lt}
use Rattle.std.proofs.lemmas.List.{length-append, length-take-le, length-drop, get_or-take, get_or-drop, take_at, drop_at, take-set-le, drop-set-lt, drop-set-add, drop-drop, take-append-drop, take-replicate, drop-replicate}
use Rattle.std.proofs.lemmas.List.Elements.{All-take, All-drop, All-nil, All-cons, All-append}
use Rattle.std.specs.List.{All}
use Rattle.item_list.proofs.Places.{row_end}
use Rattle.field_vectors.specs.Cut.{cut, grid_in, AreEntries, with_part}
use Rattle.field_vectors.specs.Grid.{IsMatrix}

-- how many rows there are
pub length-cut : {A : Type 0} (count width : ℕ) (entries : List A) → length (cut count width entries) ≡ count
length-cut zero width entries = refl
length-cut (suc count) width entries = ap suc (length-cut count width (drop width entries))

-- the row at a place
pub get_or-cut : {A : Type 0} (count width i : ℕ) (entries : List A) → i < count → get_or (cut count width entries) i [] ≡ take width (drop (i * width) entries)
get_or-cut zero width i entries below = absurd (omega arith)
get_or-cut (suc count) width zero entries below = rw (zero-mul width) refl
get_or-cut (suc count) width (suc i) entries below =
    let same : width + i * width ≡ suc i * width = omega (arith, suc-mul i width) in
    get_or-cut count width i (drop width entries) (omega arith)
    ∙ ap (take width) (drop-drop (i * width) width entries ∙ ap (λ n. drop n entries) same)

-- the entry at a place
pub get_or-cut_entry : {A : Type 0} (count width i j : ℕ) (entries : List A) (d : A) → i < count → j < width
    → get_or (get_or (cut count width entries) i []) j d ≡ get_or entries (i * width + j) d
get_or-cut_entry count width i j entries d below inside =
    ap (λ row. get_or row j d) (get_or-cut count width i entries below)
    ∙ get_or-take width (drop (i * width) entries) j d inside ∙ get_or-drop (i * width) entries j d

-- the length of what is left behind the first row
left_over : {A : Type 0} (count width : ℕ) (entries : List A) → length entries ≡ suc count * width → length (drop width entries) ≡ count * width
left_over count width entries all = omega (arith, length-drop width entries, suc-mul count width)

-- the first row is within the entries
first_row : {A : Type 0} (count width : ℕ) (entries : List A) → length entries ≡ suc count * width → width ≤ length entries
first_row count width entries all = omega (arith, suc-mul count width)

-- each row is of the width
pub cut-widths : {A : Type 0} (count width : ℕ) (entries : List A) → length entries ≡ count * width → All (λ row. length row ≡ width) (cut count width entries)
cut-widths {A} zero width entries all = All-nil (λ (row : List A). length row ≡ width)
cut-widths {A} (suc count) width entries all =
    All-cons (λ (row : List A). length row ≡ width) (take width entries) (cut count width (drop width entries))
    (length-take-le width entries (first_row count width entries all)) (cut-widths count width (drop width entries) (left_over count width entries all))

-- each entry is an element
pub cut-elements : {A : Type 0} (P : A → Type 0) (count width : ℕ) (entries : List A) → All P entries → All (All P) (cut count width entries)
cut-elements P zero width entries h = All-nil (All P)
cut-elements P (suc count) width entries h =
    All-cons (All P) (take width entries) (cut count width (drop width entries)) (All-take P width entries h) (cut-elements P count width (drop width entries) (All-drop P width entries h))

-- so entries in rows are a matrix
pub entries-IsMatrix : {A : Type 0} (P : A → Type 0) (count width : ℕ) (entries : List A) → AreEntries P count width entries → IsMatrix P (grid_in count width entries)
entries-IsMatrix P count width entries h = record { widths = cut-widths count width entries h.all; elements = cut-elements P count width entries h.elements }

-- a part behind the first entries
part_behind : {A : Type 0} (width start : ℕ) (first rest part : List A) → length first ≡ width → with_part (first ++ rest) (width + start) part ≡ first ++ with_part rest start part
part_behind zero start [] rest part same =
    let none : zero + start ≡ start = omega arith in
    let far : zero + start + length part ≡ start + length part = omega arith in
    rw none refl
part_behind (suc width) start [] rest part same = absurd (omega arith)
part_behind zero start (x ∷ first) rest part same = absurd (omega arith)
part_behind (suc width) start (x ∷ first) rest part same =
    let one : suc width + start ≡ suc (width + start) = omega arith in
    let far : suc (width + start) + length part ≡ suc (width + start + length part) = omega arith in
    rw one (rw far (ap (λ l. x ∷ l) (part_behind width start first rest part (omega arith))))

-- entries with another row at a place
pub cut-with_part : {A : Type 0} (count width i : ℕ) (entries part : List A) → i < count → length entries ≡ count * width → length part ≡ width
    → cut count width (with_part entries (i * width) part) ≡ set (cut count width entries) i part
cut-with_part zero width i entries part below all same = absurd (omega arith)
cut-with_part (suc count) width zero entries part below all same =
    let far : zero + width ≡ width = omega arith in
    rw (zero-mul width, same, far) (ap₂ (λ (x y : _). x ∷ cut count width y) (take_at part (drop width entries) width same) (drop_at part (drop width entries) width same))
cut-with_part (suc count) width (suc i) entries part below all same =
    let first = take width entries in
    let rest = drop width entries in
    let one : suc i * width ≡ width + i * width = omega (arith, suc-mul i width) in
    let long : length first ≡ width = length-take-le width entries (first_row count width entries all) in
    let behind =
    ap (λ l. with_part l (suc i * width) part) (sym (take-append-drop width entries))
    ∙ ap (λ n. with_part (first ++ rest) n part) one ∙ part_behind width (i * width) first rest part long
    in
    ap (cut (suc count) width) behind
    ∙ ap₂ (λ (x y : _). x ∷ cut count width y) (take_at first (with_part rest (i * width) part) width long) (drop_at first (with_part rest (i * width) part) width long)
    ∙ ap (λ rows. first ∷ rows) (cut-with_part count width i rest part (omega arith) (left_over count width entries all) same)

-- entries with another entry at a place
pub cut-set : {A : Type 0} (count width i j : ℕ) (entries : List A) (value : A) → i < count → j < width
    → cut count width (set entries (i * width + j) value) ≡ set (cut count width entries) i (set (get_or (cut count width entries) i []) j value)
cut-set zero width i j entries value below inside = absurd (omega arith)
cut-set (suc count) width zero j entries value below inside =
    let none : zero * width + j ≡ j = omega (arith, zero-mul width) in
    rw none (ap₂ (λ (x y : _). x ∷ cut count width y) (take-set-lt width entries j value inside) (drop-set-lt width entries j value inside))
cut-set (suc count) width (suc i) j entries value below inside =
    let one : suc i * width + j ≡ width + (i * width + j) = omega (arith, suc-mul i width) in
    rw one (
    ap₂ (λ (x y : _). x ∷ cut count width y) (take-set-le width entries (width + (i * width + j)) value (omega arith)) (drop-set-add width entries (i * width + j) value)
    ∙ ap (λ rows. take width entries ∷ rows) (cut-set count width i j (drop width entries) value (omega arith) inside)
    )

-- entries that are all one value
pub cut-replicate : {A : Type 0} (count width : ℕ) (value : A) → cut count width (replicate (count * width) value) ≡ replicate count (replicate width value)
cut-replicate zero width value = refl
cut-replicate (suc count) width value =
    let more : width ≤ suc count * width = omega (arith, suc-mul count width) in
    let rest : suc count * width - width ≡ count * width = omega (arith, suc-mul count width) in
    ap₂ (λ (x y : _). x ∷ cut count width y) (take-replicate width (suc count * width) value more) (drop-replicate width (suc count * width) value ∙ ap (λ n. replicate n value) rest)
    ∙ ap (λ rows. replicate width value ∷ rows) (cut-replicate count width value)

-- a list with other items from a place on has the same length
pub length-with_part : {A : Type 0} (xs part : List A) (start : ℕ) → start + length part ≤ length xs → length (with_part xs start part) ≡ length xs
length-with_part xs part start fits =
    let before = length-take-le start xs (omega arith) in
    let behind = length-drop (start + length part) xs in
    omega (arith, length-append (take start xs) (part ++ drop (start + length part) xs), length-append part (drop (start + length part) xs), before, behind)

-- entries with another row of elements are entries too
pub with_part-AreEntries : {A : Type 0} (P : A → Type 0) (count width i : ℕ) (entries part : List A) → i < count → AreEntries P count width entries → length part ≡ width → All P part
    → AreEntries P count width (with_part entries (i * width) part)
with_part-AreEntries P count width i entries part below h same elements =
    let fits = row_end i count width below in record {
      all = length-with_part entries part (i * width) (omega (arith, h.all)) ∙ h.all;
      elements = All-append P (take (i * width) entries) (part ++ drop (i * width + length part) entries) (All-take P (i * width) entries h.elements)
          (All-append P part (drop (i * width + length part) entries) elements (All-drop P (i * width + length part) entries h.elements));
    }
