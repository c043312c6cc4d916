-- Laws of counts: of the items of a list that pass a test, and of a number in a list.
use Rattle.std.specs.Prelude.{◌≡◌, ◌≢◌, ◌<◌, ◌+◌, ◌/◌, ◌%◌, ◌==◌, ℕ, Bool, true, false, not, cond, ◌&&◌, List, [], ◌∷◌, length, count_by}
use Rattle.std.specs.List.{list_all}
use Rattle.std.proofs.Common.{refl, sym, ap, ◌∙◌, arith, inl, inr}
use Rattle.std.proofs.lemmas.Bool.{cases_eq, eq-eqb, ne_eqb}
use Rattle.std.proofs.lemmas.List.Sums.{sum_by-cons}
use Rattle.generation_frame.specs.Blocks.{pieces}
use Rattle.due_sums.specs.Counts.{count_of, reads_of}
use Rattle.due_sums.specs.Waiting.{due_number}

-- one where a test is passed
abbrev pub one_if : Bool → ℕ
one_if b = cond b 1 0

-- the count of a list and one item more
pub count_by-cons : (p : ℕ → Bool) (x : ℕ) (xs : List ℕ) → count_by p (x ∷ xs) ≡ one_if (p x) + count_by p xs
count_by-cons p x xs = sum_by-cons (λ y. cond (p y) 1 0) x xs

-- tests that agree count the same
pub count_by-same : (p q : ℕ → Bool) (xs : List ℕ) → ((x : ℕ) → p x ≡ q x) → count_by p xs ≡ count_by q xs
count_by-same p q xs same = ap (λ (test : ℕ → Bool). count_by test xs) (λ i x. same x i)

-- an item that passes or fails
one_passes : (b : Bool) → b ≡ true → one_if b ≡ 1
one_passes b passes = ap one_if passes

one_fails : (b : Bool) → b ≡ false → one_if b ≡ 0
one_fails b fails = ap one_if fails

-- where no item passes, none is counted
pub count_by-none : (p : ℕ → Bool) (xs : List ℕ) → ((x : ℕ) → p x ≡ false) → count_by p xs ≡ 0
count_by-none p [] none = refl
count_by-none p (x ∷ xs) none = omega (arith, count_by-cons p x xs, one_fails (p x) (none x), count_by-none p xs none)

-- where every item passes, all are counted
pub count_by-all : (p : ℕ → Bool) (xs : List ℕ) → ((x : ℕ) → p x ≡ true) → count_by p xs ≡ length xs
count_by-all p [] all = refl
count_by-all p (x ∷ xs) all = omega (arith, count_by-cons p x xs, one_passes (p x) (all x), count_by-all p xs all)

-- Where one number passes no longer, the count falls by as often as it stands in the list.
pub count_by-falls : (p q : ℕ → Bool) (number : ℕ) (xs : List ℕ) → p number ≡ true → q number ≡ false → ((x : ℕ) → x ≢ number → q x ≡ p x)
    → count_by q xs + count_of number xs ≡ count_by p xs
count_by-falls p q number [] passed fails others = refl
count_by-falls p q number (x ∷ xs) passed fails others =
    let rest = count_by-falls p q number xs passed fails others in
    omega (arith, count_by-cons p x xs, count_by-cons q x xs, count_by-cons (λ y. y == number) x xs, rest, here)
  where
    here : one_if (q x) + one_if (x == number) ≡ one_if (p x)
    here = elim (cases_eq x number) [
      | inl same ↦
          omega (arith, one_passes (p x) (ap p same ∙ passed), one_fails (q x) (ap q same ∙ fails), one_passes (x == number) (eq-eqb x number same))
      | inr apart ↦
          omega (arith, ap one_if (others x apart), one_fails (x == number) (ne_eqb x number apart))
    ]

-- all items pass where none that fails is counted
pub list_all-from_count : (p : ℕ → Bool) (xs : List ℕ) → count_by (λ x. not (p x)) xs ≡ 0 → list_all p xs ≡ true
list_all-from_count p [] none = refl
list_all-from_count p (x ∷ xs) none =
    let both = count_by-cons (λ y. not (p y)) x xs in
    here (p x) (omega (arith, both, none)) (list_all-from_count p xs (omega (arith, both, none)))
  where
    here : (b : Bool) → one_if (not b) ≡ 0 → list_all p xs ≡ true → (b && list_all p xs) ≡ true
    here true none rest = rest
    here false none rest = absurd (omega (arith, none))

-- and fewer than all where one is
pub list_all-from_some : (p : ℕ → Bool) (xs : List ℕ) → 0 < count_by (λ x. not (p x)) xs → list_all p xs ≡ false
list_all-from_some p [] some = absurd (omega (arith, some))
list_all-from_some p (x ∷ xs) some =
    let both = count_by-cons (λ y. not (p y)) x xs in
    here (p x) (omega (arith, both, some)) (list_all-from_some p xs)
  where
    here : (b : Bool) → 0 < one_if (not b) + count_by (λ y. not (p y)) xs → (0 < count_by (λ y. not (p y)) xs → list_all p xs ≡ false) → (b && list_all p xs) ≡ false
    here true some rest = rest (omega (arith, some))
    here false some rest = refl

-- a number of a piece of a sum is that of no other piece of a sum
pub due_number-sum : (sum piece : ℕ) → piece < pieces → due_number sum piece / pieces ≡ sum
due_number-sum sum piece low = omega (arith, low)

pub due_number-of : (number : ℕ) → due_number (number / pieces) (number % pieces) ≡ number
due_number-of number = omega arith

-- sums name the number of a piece of a sum as often as that sum is among them
pub reads_of-own : (readers : List ℕ) (sum piece : ℕ) → reads_of readers piece (due_number sum piece) ≡ count_of sum readers
reads_of-own readers sum piece = count_by-same (λ one. due_number one piece == due_number sum piece) (λ one. one == sum) readers same
  where
    same : (one : ℕ) → (due_number one piece == due_number sum piece) ≡ (one == sum)
    same one = elim (cases_eq one sum) [
      | inl is ↦ eq-eqb _ _ (omega (arith, is)) ∙ sym (eq-eqb one sum is)
      | inr apart ↦ ne_eqb _ _ (λ is. apart (omega (arith, is))) ∙ sym (ne_eqb one sum apart)
    ]

-- and none of another piece
pub reads_of-other : (readers : List ℕ) (sum piece other : ℕ) → piece < pieces → other < pieces → other ≢ piece → reads_of readers piece (due_number sum other) ≡ 0
reads_of-other readers sum piece other low low' apart =
    count_by-none (λ one. due_number one piece == due_number sum other) readers (λ one. ne_eqb _ _ (λ is. apart (omega (arith, is, low, low'))))
