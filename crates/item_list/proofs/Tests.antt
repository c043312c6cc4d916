-- Items of lists that pass tests.
use Rattle.std.specs.Prelude.{◌≡◌, ℕ, zero, suc, ◌<◌, ◌≤◌, Bool, true, false, ◌||◌, cond, nat_eq, nat_lt, List, [], ◌∷◌, ◌++◌, All, count_by, filter, length, map, get_or}
use Rattle.std.specs.List.{list_any, list_all, position_or_len, AllByRecursion}
use Rattle.std.proofs.Common.{refl, sym, ◌∙◌, ap, arith, inl, inr}
use Rattle.std.proofs.lemmas.Bool.{and_parts, both_ways, cases_lt, cond_both, eqb-true, ltb-true}
use Rattle.std.proofs.lemmas.List.Folds.{list_any_none}
use Rattle.std.proofs.lemmas.List.Sums.{fails_before_first, sum_by-le}

-- a test that no item passes fails at each
pub none_passes : {X : Type 0} (test : X → Bool) (xs : List X) → list_any test xs ≡ false → AllByRecursion (λ x. test x ≡ false) xs
none_passes test [] none = tt
none_passes test (x ∷ xs) none =
    let neither = or_false (test x) (list_any test xs) none in
    (neither.0, none_passes test xs neither.1)
  where
    or_false : (a b : Bool) → (a || b) ≡ false → (a ≡ false) × (b ≡ false)
    or_false true b h = cc
    or_false false b h = (refl, h)

-- a number of a list of numbers below a bound is below the bound
pub below_bound : (xs : List ℕ) (bound number : ℕ) → list_all (λ x. nat_lt x bound) xs ≡ true → list_any (nat_eq number) xs ≡ true → number < bound
below_bound [] bound number below found = cc
below_bound (x ∷ xs) bound number below found =
    let parts = and_parts _ _ below in
    here_or_later (nat_eq number x) refl found (λ later. below_bound xs bound number parts.1 later)
  where
    here_or_later : (is : Bool) → nat_eq number x ≡ is → (is || list_any (nat_eq number) xs) ≡ true → (list_any (nat_eq number) xs ≡ true → number < bound) → number < bound
    here_or_later true same here rest = rw (eqb-true number x same) (ltb-true x bound (and_parts _ _ below).0)
    here_or_later false same later rest = rest later

-- where a test implies another, a list whose items all pass it passes the other
pub list_all-implied : {X : Type 0} (strong weak : X → Bool) (xs : List X) → ((x : X) → strong x ≡ true → weak x ≡ true) → list_all strong xs ≡ true → list_all weak xs ≡ true
list_all-implied strong weak [] implies all = refl
list_all-implied strong weak (x ∷ xs) implies all =
    let parts = and_parts _ _ all in
    rw (implies x parts.0) (list_all-implied strong weak xs implies parts.1)

-- a test of a part of each item is one of the parts
pub list_any-map : {X Y : Type 0} (part : X → Y) (test : Y → Bool) (xs : List X) → list_any test (map part xs) ≡ list_any (λ x. test (part x)) xs
list_any-map part test [] = refl
list_any-map part test (x ∷ xs) = ap (λ (b : Bool). test (part x) || b) (list_any-map part test xs)

-- a test that every item passes, at an item
pub passes_at : {X : Type 0} (test : X → Bool) (xs : List X) (i : ℕ) (d : X) → list_all test xs ≡ true → i < length xs → test (get_or xs i d) ≡ true
passes_at test [] i d all within = absurd (omega arith)
passes_at test (x ∷ xs) zero d all within = (and_parts _ _ all).0
passes_at test (x ∷ xs) (suc i) d all within = passes_at test xs i d (and_parts _ _ all).1 (omega arith)

-- a list in which an item passes has a first place at which one does
pub position_or_len-within : {X : Type 0} (test : X → Bool) (xs : List X) → list_any test xs ≡ true → position_or_len test xs < length xs
position_or_len-within test xs found = elim (cases_lt (position_or_len test xs) (length xs)) [
  | inl within ↦ within
  | inr past ↦ absurd (both_ways _ (list_any_none test xs (λ k d inside. fails_before_first test xs k d (omega arith))) found)
]

-- a list in which an item passes keeps one
pub length-filter-some : {X : Type 0} (test : X → Bool) (xs : List X) → list_any test xs ≡ true → 0 < length (filter test xs)
length-filter-some test [] some = cc
length-filter-some test (x ∷ xs) some =
    cond_both (test x) (x ∷ filter test xs) (filter test xs) (λ l. 0 < length l) (λ _. omega arith)
    (λ fails. length-filter-some test xs (sym (ap (λ b. b || list_any test xs) fails) ∙ some))

-- what fails a test counts nothing
pub uncounted : (passed : Bool) → passed ≡ false → cond passed 1 0 ≤ 0
uncounted true fails = cc
uncounted false fails = omega arith

-- where no item passes, the count is zero
pub count_by-none : {X : Type 0} (p : X → Bool) (xs : List X) → All (λ x. p x ≡ false) xs → count_by p xs ≡ 0
count_by-none p xs none =
    let most = sum_by-le (λ x. cond (p x) 1 0) 0 xs (λ k d within. uncounted (p (get_or xs k d)) (none k d within)) in
    omega (arith, most)

-- what each item of two lists has, each of both in a row has
pub AllByRecursion-append : {X : Type 0} (P : X → Type 0) (xs ys : List X) → AllByRecursion P xs → AllByRecursion P ys → AllByRecursion P (xs ++ ys)
AllByRecursion-append P [] ys first second = second
AllByRecursion-append P (x ∷ xs) ys first second = (first.0, AllByRecursion-append P xs ys first.1 second)
