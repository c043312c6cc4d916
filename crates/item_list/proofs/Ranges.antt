-- The numbers of a range that pass a test: the first one, and all of them.
use Rattle.std.specs.Prelude.{◌≡◌, ℕ, zero, suc, ◌+◌, ◌<◌, ◌≤◌, Bool, true, false, List, [], ◌∷◌, ◌++◌, filter, cond, find, Some, None}
use Rattle.std.specs.List.{list_all, range_with_len}
use Rattle.std.proofs.Common.{refl, sym, ◌∙◌, ap, arith, get_or, inl, inr, zero-add}
use Rattle.std.proofs.lemmas.Bool.{cases_eq, both_ways}
use Rattle.std.proofs.lemmas.List.{map-id}
use Rattle.std.proofs.lemmas.List.FromFn.{filter_of_map_range_with_len_more, get_or-range_with_len, length-range_with_len}
use Rattle.std.proofs.lemmas.List.Sums.{AllPass-from_list_all}

-- the first number of a range that passes a test
pub find_first : (test : ℕ → Bool) (a n x : ℕ) → a ≤ x → x < a + n → test x ≡ true → ((l : ℕ) → a ≤ l → l < x → test l ≡ false) → find test (range_with_len a n) ≡ Some x
find_first test a zero x from within passes before = absurd (omega arith)
find_first test a (suc n) x from within passes before =
    elim (cases_eq a x) [
      | inl same ↦ rw (ap test same ∙ passes) (ap Some same)
      | inr other ↦ rw (before a (omega arith) (omega arith)) (find_first test (a + 1) n x (omega arith) (omega arith) passes (λ l above below. before l (omega arith) below))
    ]

-- where no number passes, there is none
pub find_nothing : (test : ℕ → Bool) (a n : ℕ) → ((l : ℕ) → a ≤ l → l < a + n → test l ≡ false) → find test (range_with_len a n) ≡ None
find_nothing test a zero none = refl
find_nothing test a (suc n) none =
    rw (none a (omega arith) (omega arith)) (find_nothing test (a + 1) n (λ l above below. none l (omega arith) (omega arith)))

-- what was found is in the range and passes
pub find_passes : (test : ℕ → Bool) (a n x : ℕ) → find test (range_with_len a n) ≡ Some x → (a ≤ x) × (x < a + n) × (test x ≡ true)
find_passes test a zero x found = cc
find_passes test a (suc n) x found = at (test a) refl found (λ later. find_passes test (a + 1) n x later)
  where
    at : (passes : Bool) → test a ≡ passes → cond passes (Some a) (find test (range_with_len (a + 1) n)) ≡ Some x
        → (find test (range_with_len (a + 1) n) ≡ Some x → (a + 1 ≤ x) × (x < a + 1 + n) × (test x ≡ true)) → (a ≤ x) × (x < a + suc n) × (test x ≡ true)
    at true passes found rest = let same : a ≡ x = cc in (omega arith, omega arith, ap test (sym same) ∙ passes)
    at false fails found rest = let later = rest found in (omega (arith, later.0), omega (arith, later.1), later.2)

-- where nothing was found, no number passes
pub find_fails : (test : ℕ → Bool) (a n : ℕ) → find test (range_with_len a n) ≡ None → (l : ℕ) → a ≤ l → l < a + n → test l ≡ false
find_fails test a zero none l above below = absurd (omega arith)
find_fails test a (suc n) none l above below = at (test a) refl none (λ later more. find_fails test (a + 1) n later l more (omega arith))
  where
    at : (passes : Bool) → test a ≡ passes → cond passes (Some a) (find test (range_with_len (a + 1) n)) ≡ None
        → (find test (range_with_len (a + 1) n) ≡ None → a + 1 ≤ l → test l ≡ false) → test l ≡ false
    at true passes none rest = cc
    at false fails none rest = elim (cases_eq a l) [
      | inl same ↦ ap test (sym same) ∙ fails
      | inr other ↦ rest none (omega arith)
    ]

-- no number before what was found passes
pub find_least : (test : ℕ → Bool) (a n x l : ℕ) → find test (range_with_len a n) ≡ Some x → a ≤ l → l < a + n → test l ≡ true → x ≤ l
find_least test a zero x l found above below passes = absurd (omega arith)
find_least test a (suc n) x l found above below passes = at (test a) refl found (λ later more. find_least test (a + 1) n x l later more (omega arith) passes)
  where
    at : (here : Bool) → test a ≡ here → cond here (Some a) (find test (range_with_len (a + 1) n)) ≡ Some x
        → (find test (range_with_len (a + 1) n) ≡ Some x → a + 1 ≤ l → x ≤ l) → x ≤ l
    at true is found rest = let same : a ≡ x = cc in omega arith
    at false is found rest = elim (cases_eq a l) [
      | inl same ↦ absurd (both_ways (test a) is (ap test same ∙ passes))
      | inr other ↦ rest found (omega arith)
    ]

-- a test that all numbers below a bound pass, at one of them
pub at_below : (test : ℕ → Bool) (n k : ℕ) → list_all test (range_with_len 0 n) ≡ true → k < n → test k ≡ true
at_below test n k all below =
    let number : get_or (range_with_len 0 n) k 0 ≡ k = get_or-range_with_len 0 n k 0 below ∙ omega arith in
    ap test (sym number) ∙ AllPass-from_list_all test (range_with_len 0 n) all k 0 (omega (arith, below, length-range_with_len 0 n))

-- the numbers below the next bound that pass a test
pub filter-range_more : (p : ℕ → Bool) (n : ℕ) → filter p (range_with_len 0 (n + 1)) ≡ filter p (range_with_len 0 n) ++ cond (p n) (n ∷ []) []
filter-range_more p n =
    ap (filter p) (sym (map-id (range_with_len 0 (n + 1)))) ∙ filter_of_map_range_with_len_more p (λ (k : ℕ). k) 0 n n (zero-add n)
    ∙ ap (λ (numbers : List ℕ). filter p numbers ++ cond (p n) (n ∷ []) []) (map-id (range_with_len 0 n))
