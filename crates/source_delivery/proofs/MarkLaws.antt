-- The reads of two sources, told by marks: some reads, and then more.
use Rattle.std.specs.Prelude.{◌≡◌, ◌<◌, ◌≤◌, ◌+◌, ℕ, zero, suc, Bool, true, false, not, List, [], ◌∷◌, ◌++◌, Some, length, map, slice_get}
use Rattle.std.proofs.Common.{refl, sym, ap, ◌∙◌, arith}
use Rattle.std.proofs.lemmas.List.{append-nil, append_assoc, length-append, length-map, map-append}
use Rattle.lif_outside.specs.Events.{Event}
use Rattle.source_delivery.specs.Twin.{marked, unmarked}

-- some marks, and then more
pub marked-append : (marks : List Bool) (reads : List Event) (others : List Bool) (later : List Event) → length marks ≡ length reads
    → marked (marks ++ others) (reads ++ later) ≡ marked marks reads ++ marked others later
marked-append [] [] others later same = refl
marked-append [] (event ∷ reads) others later same = absurd (omega (arith, same))
marked-append (mark ∷ marks) [] others later same = absurd (omega (arith, same))
marked-append (true ∷ marks) (event ∷ reads) others later same = ap (λ rest. event ∷ rest) (marked-append marks reads others later (omega (arith, same)))
marked-append (false ∷ marks) (event ∷ reads) others later same = marked-append marks reads others later (omega (arith, same))

pub unmarked-append : (marks : List Bool) (reads : List Event) (others : List Bool) (later : List Event) → length marks ≡ length reads
    → unmarked (marks ++ others) (reads ++ later) ≡ unmarked marks reads ++ unmarked others later
unmarked-append marks reads others later same =
    ap (λ marks. marked marks (reads ++ later)) (map-append not marks others)
    ∙ marked-append (map not marks) reads (map not others) later (length-map marks not ∙ same)

-- marks behind the reads tell nothing
pub marked-short : (marks others : List Bool) (reads : List Event) → length reads ≤ length marks → marked (marks ++ others) reads ≡ marked marks reads
marked-short [] [] [] few = refl
marked-short [] (mark ∷ others) [] few = refl
marked-short [] others (event ∷ reads) few = absurd (omega arith)
marked-short (mark ∷ marks) others [] few = refl
marked-short (true ∷ marks) others (event ∷ reads) few = ap (λ rest. event ∷ rest) (marked-short marks others reads (omega arith))
marked-short (false ∷ marks) others (event ∷ reads) few = marked-short marks others reads (omega arith)

pub unmarked-short : (marks others : List Bool) (reads : List Event) → length reads ≤ length marks → unmarked (marks ++ others) reads ≡ unmarked marks reads
unmarked-short marks others reads few =
    ap (λ marks. marked marks reads) (map-append not marks others) ∙ marked-short (map not marks) (map not others) reads (omega (arith, few, length-map marks not))

-- one mark for each
abbrev pub all_marks : Bool → List Event → List Bool
all_marks mark events = map (λ event. mark) events

-- all of them have a mark, or none
marked-all : (events : List Event) → marked (all_marks true events) events ≡ events
marked-all [] = refl
marked-all (event ∷ events) = ap (λ rest. event ∷ rest) (marked-all events)

marked-none : (events : List Event) → marked (all_marks false events) events ≡ []
marked-none [] = refl
marked-none (event ∷ events) = marked-none events

not-all : (mark : Bool) (events : List Event) → map not (all_marks mark events) ≡ all_marks (not mark) events
not-all mark [] = refl
not-all mark (event ∷ events) = ap (λ rest. not mark ∷ rest) (not-all mark events)

-- ---- reads of the first source, or of the second, behind those so far

module _ (marks : List Bool) (reads later : List Event) (as_many : length marks ≡ length reads) where
  pub more-as_many : (mark : Bool) → length (marks ++ all_marks mark later) ≡ length (reads ++ later)
  more-as_many mark = omega (arith, length-append marks (all_marks mark later), length-map later (λ event. mark), length-append reads later, as_many)

  first-marked : marked (marks ++ all_marks true later) (reads ++ later) ≡ marked marks reads ++ later
  first-marked = marked-append marks reads (all_marks true later) later as_many ∙ ap (λ rest. marked marks reads ++ rest) (marked-all later)

  first-unmarked : unmarked (marks ++ all_marks true later) (reads ++ later) ≡ unmarked marks reads
  first-unmarked =
      unmarked-append marks reads (all_marks true later) later as_many
      ∙ ap (λ marks'. unmarked marks reads ++ marked marks' later) (not-all true later)
      ∙ ap (λ rest. unmarked marks reads ++ rest) (marked-none later) ∙ append-nil (unmarked marks reads)

  second-marked : marked (marks ++ all_marks false later) (reads ++ later) ≡ marked marks reads
  second-marked =
      marked-append marks reads (all_marks false later) later as_many ∙ ap (λ rest. marked marks reads ++ rest) (marked-none later) ∙ append-nil (marked marks reads)

  second-unmarked : unmarked (marks ++ all_marks false later) (reads ++ later) ≡ unmarked marks reads ++ later
  second-unmarked =
      unmarked-append marks reads (all_marks false later) later as_many
      ∙ ap (λ marks'. unmarked marks reads ++ marked marks' later) (not-all false later)
      ∙ ap (λ rest. unmarked marks reads ++ rest) (marked-all later)

-- and of the first ones of them
module _ (marks : List Bool) (reads later more rest : List Event) (as_many : length marks ≡ length reads) (parts : later ≡ more ++ rest) where
  marks-are : (mark : Bool) → marks ++ all_marks mark later ≡ (marks ++ all_marks mark more) ++ all_marks mark rest
  marks-are mark =
      ap (λ events. marks ++ all_marks mark events) parts ∙ ap (λ others. marks ++ others) (map-append (λ (event : Event). mark) more rest)
      ∙ sym (append_assoc marks (all_marks mark more) (all_marks mark rest))

  room : (mark : Bool) → length (reads ++ more) ≤ length (marks ++ all_marks mark more)
  room mark = omega (arith, more-as_many marks reads more as_many mark)

  pub first-marks : marked (marks ++ all_marks true later) (reads ++ more) ≡ marked marks reads ++ more
  first-marks =
      ap (λ marks. marked marks (reads ++ more)) (marks-are true) ∙ marked-short (marks ++ all_marks true more) (all_marks true rest) (reads ++ more) (room true) ∙ first-marked marks reads more as_many

  pub first-rests : unmarked (marks ++ all_marks true later) (reads ++ more) ≡ unmarked marks reads
  first-rests =
      ap (λ marks. unmarked marks (reads ++ more)) (marks-are true) ∙ unmarked-short (marks ++ all_marks true more) (all_marks true rest) (reads ++ more) (room true) ∙ first-unmarked marks reads more as_many

  pub second-marks : marked (marks ++ all_marks false later) (reads ++ more) ≡ marked marks reads
  second-marks =
      ap (λ marks. marked marks (reads ++ more)) (marks-are false) ∙ marked-short (marks ++ all_marks false more) (all_marks false rest) (reads ++ more) (room false) ∙ second-marked marks reads more as_many

  pub second-rests : unmarked (marks ++ all_marks false later) (reads ++ more) ≡ unmarked marks reads ++ more
  second-rests =
      ap (λ marks. unmarked marks (reads ++ more)) (marks-are false) ∙ unmarked-short (marks ++ all_marks false more) (all_marks false rest) (reads ++ more) (room false) ∙ second-unmarked marks reads more as_many

-- ---- the mark at a place

pub mark-front : (marks others : List Bool) (n : ℕ) → n < length marks → slice_get (marks ++ others) n ≡ slice_get marks n
mark-front [] others n below = absurd (omega arith)
mark-front (mark ∷ marks) others zero below = refl
mark-front (mark ∷ marks) others (suc n) below = mark-front marks others n (omega arith)

mark-behind : (marks others : List Bool) (n : ℕ) → slice_get (marks ++ others) (length marks + n) ≡ slice_get others n
mark-behind [] others n =
    let none : 0 + n ≡ n = omega arith in
    ap (slice_get others) none
mark-behind (mark ∷ marks) others n =
    let next : length (mark ∷ marks) + n ≡ suc (length marks + n) = omega arith in
    ap (slice_get (mark ∷ (marks ++ others))) next ∙ mark-behind marks others n

mark-all : (mark : Bool) (events : List Event) (n : ℕ) → n < length events → slice_get (all_marks mark events) n ≡ Some mark
mark-all mark [] n below = absurd (omega arith)
mark-all mark (event ∷ events) zero below = refl
mark-all mark (event ∷ events) (suc n) below = mark-all mark events n (omega arith)

-- behind some marks all are the same
pub mark-more : (marks : List Bool) (mark : Bool) (events : List Event) (n : ℕ) → n < length events → slice_get (marks ++ all_marks mark events) (length marks + n) ≡ Some mark
mark-more marks mark events n below = mark-behind marks (all_marks mark events) n ∙ mark-all mark events n below
