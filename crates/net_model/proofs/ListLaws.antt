-- Laws of the tests on lists: distinct and rising items, items that all pass a test, numbers among others, and the first
-- number of a range that passes a test.
use Rattle.std.specs.Prelude.{◌≡◌, ℕ, ◌<◌, ◌≤◌, Bool, true, false, ◌&&◌, ◌==◌, nat_eq, nat_lt, IsTrue, List, [], ◌∷◌, length, filter, ◌++◌}
use Rattle.std.specs.List.{list_any, list_all, range_with_len, IsDistinct}
use Rattle.std.proofs.Common.{refl, sym, ◌∙◌, ap, arith, inl, inr}
use Rattle.std.proofs.lemmas.Bool.{and_parts, and_from, or_cases, cases_lt, cond_both, eqb-true, eq-eqb, ne_eqb, lt-ltb, le-ltb, not-true, not_from_false, true_from_ne_false, both_ways, false_from_ne_true, or_from, or_left, or_right}
use Rattle.std.proofs.lemmas.Cmp.{nat_eq_equiv}
use Rattle.std.proofs.lemmas.List.Elements.{All-filter, All-from_recursion}
use Rattle.std.proofs.lemmas.List.Folds.{list_any_at, list_any_none, list_any-append}
use Rattle.std.proofs.lemmas.List.FromFn.{length-range_with_len, get_or-range_with_len}
use Rattle.std.proofs.lemmas.List.Sums.{AllPass-from_list_all, list_all-from_AllPass}
use Rattle.std.proofs.lemmas.Map.Made.{length-le_from_is_member}
use Rattle.std.proofs.lemmas.Map.Steps.{length-le_from_distinct_below}
use Rattle.std.proofs.lemmas.Map.Views.{any-filter_same}
use Rattle.item_list.proofs.Tests.{below_bound, none_passes}
use Rattle.net_model.specs.Lists.{are_distinct, is_among, is_rising}

-- the test of `are_distinct` in the words of the library
pub IsDistinct-from_are_distinct : {X : Type 0} (same : X → X → Bool) (xs : List X) → are_distinct same xs ≡ true → IsDistinct same xs
unfolding IsDistinct
IsDistinct-from_are_distinct same [] apart = tt
IsDistinct-from_are_distinct same (x ∷ xs) apart =
    let parts = and_parts _ _ apart in
    (none_passes (same x) xs (not-true _ parts.0), IsDistinct-from_are_distinct same xs parts.1)

-- distinct numbers below a bound are at most as many as the bound
pub length-are_distinct : (xs : List ℕ) (bound : ℕ) → IsTrue (are_distinct nat_eq xs) → IsTrue (list_all (λ x. nat_lt x bound) xs) → length xs ≤ bound
length-are_distinct xs bound apart below =
    length-le_from_distinct_below xs bound (IsDistinct-from_are_distinct nat_eq xs apart) (λ number found. below_bound xs bound number below found)

-- the test of `are_distinct` on a number is that of `is_among`
pub is_among-same : (numbers : List ℕ) (number : ℕ) → list_any (nat_eq number) numbers ≡ is_among numbers number
is_among-same [] number = refl
is_among-same (one ∷ numbers) number = rw (nat_eq_equiv.symm number one, is_among-same numbers number) refl

-- among the numbers of a list that pass a test are those that pass it and are in the list
pub is_among-filter : (test : ℕ → Bool) (numbers : List ℕ) (number : ℕ) → is_among (filter test numbers) number ≡ (test number && is_among numbers number)
is_among-filter test numbers number = any-filter_same (λ one. one == number) test (test number) (λ one same. ap test (eqb-true one number same)) numbers

-- among the numbers from 0 to a bound are those below the bound
pub is_among-range_with_len : (bound number : ℕ) → is_among (range_with_len 0 bound) number ≡ nat_lt number bound
is_among-range_with_len bound number = elim (cases_lt number bound) [
  | inl below ↦ list_any_at (λ one. one == number) (range_with_len 0 bound) number 0 (omega (arith, length-range_with_len 0 bound)) (eq-eqb _ _ (omega (arith, get_or-range_with_len 0 bound number 0 below)))
      ∙ sym (lt-ltb number bound below)
  | inr above ↦ list_any_none (λ one. one == number) (range_with_len 0 bound) (λ k d within. let inside : k < bound = rw length-range_with_len at within in
      ne_eqb _ _ (λ same. absurd (omega (arith, same, get_or-range_with_len 0 bound k d inside)))) ∙ sym (le-ltb number bound above)
]

-- distinct items that pass a test are distinct
pub are_distinct-filter : {X : Type 0} (same : X → X → Bool) (test : X → Bool) (xs : List X) → are_distinct same xs ≡ true → are_distinct same (filter test xs) ≡ true
are_distinct-filter same test [] apart = refl
are_distinct-filter same test (x ∷ xs) apart =
    let parts = and_parts _ _ apart in
    let rest = are_distinct-filter same test xs parts.1 in
    let others = All-filter test (λ y. same x y ≡ false) xs (All-from_recursion (λ y. same x y ≡ false) xs (none_passes (same x) xs (not-true _ parts.0))) in
    cond_both (test x) (x ∷ filter test xs) (filter test xs) (λ l. are_distinct same l ≡ true) (λ _. and_from _ _ (not_from_false _ (list_any_none (same x) (filter test xs) others)) rest) (λ _. rest)

-- rising numbers that pass a test rise
pub is_rising-filter : (test : ℕ → Bool) (numbers : List ℕ) → is_rising numbers ≡ true → is_rising (filter test numbers) ≡ true
is_rising-filter test [] rising = refl
is_rising-filter test (x ∷ xs) rising =
    let parts = and_parts _ _ rising in
    let rest = is_rising-filter test xs parts.1 in
    let above = list_all-from_AllPass (nat_lt x) (filter test xs) (All-filter test (λ y. nat_lt x y ≡ true) xs (AllPass-from_list_all (nat_lt x) xs parts.0)) in
    cond_both (test x) (x ∷ filter test xs) (filter test xs) (λ l. is_rising l ≡ true) (λ _. and_from _ _ above rest) (λ _. rest)

-- distinct numbers that are all among others are at most as many as those
pub length-le_from_is_among : (xs ys : List ℕ) → are_distinct nat_eq xs ≡ true → ((number : ℕ) → is_among xs number ≡ true → is_among ys number ≡ true) → length xs ≤ length ys
length-le_from_is_among xs ys apart each =
    length-le_from_is_member nat_eq_equiv xs ys (IsDistinct-from_are_distinct nat_eq xs apart) (λ number found. is_among-same ys number ∙ each number (sym (is_among-same xs number) ∙ found))

-- distinct numbers that are all among others, and are as many at least, have all of the others
pub is_among-from_length : (xs ys : List ℕ) → are_distinct nat_eq xs ≡ true → ((number : ℕ) → is_among xs number ≡ true → is_among ys number ≡ true) → length ys ≤ length xs
    → (number : ℕ) → is_among ys number ≡ true → is_among xs number ≡ true
is_among-from_length xs ys apart each whole number found =
    true_from_ne_false _ (λ missing. absurd (omega (
      arith,
      length-le_from_is_among (number ∷ xs) ys (and_from _ _ (not_from_false _ (is_among-same xs number ∙ missing)) apart) (λ other among.
          elim (or_cases _ _ among) [
            | inl here ↦ ap (is_among ys) (sym (eqb-true number other here)) ∙ found
            | inr later ↦ each other later
          ]),
    )))

-- the two tests of a number among others, each from the other
pub is_among-from_list_any : (xs : List ℕ) (q : ℕ) → list_any (nat_eq q) xs ≡ true → is_among xs q ≡ true
is_among-from_list_any xs q found = sym (is_among-same xs q) ∙ found

pub list_any-from_is_among : (xs : List ℕ) (q : ℕ) → is_among xs q ≡ true → list_any (nat_eq q) xs ≡ true
list_any-from_is_among xs q found = is_among-same xs q ∙ found

-- distinct numbers, and distinct numbers that aren't among them
pub are_distinct-append : (xs ys : List ℕ) → are_distinct nat_eq xs ≡ true → are_distinct nat_eq ys ≡ true → ((q : ℕ) → is_among xs q ≡ true → is_among ys q ≡ false) → are_distinct nat_eq (xs ++ ys) ≡ true
are_distinct-append [] ys distinct others apart = others
are_distinct-append (x ∷ xs) ys distinct others apart =
    let parts = and_parts _ _ distinct in
    let fresh : is_among ys x ≡ false = apart x (or_left _ _ (eq-eqb x x refl)) in
    let other : list_any (nat_eq x) ys ≡ false = false_from_ne_true _ (λ found. both_ways _ fresh (is_among-from_list_any ys x found)) in
    and_from _ _
    (not_from_false _ (list_any-append (nat_eq x) xs ys ∙ or_from _ _ (not-true _ parts.0) other))
    (are_distinct-append xs ys parts.1 others (λ q among. apart q (or_right _ _ among)))

-- a test that each number of a list passes
pub list_all-from_is_among : (test : ℕ → Bool) (xs : List ℕ) → ((q : ℕ) → is_among xs q ≡ true → test q ≡ true) → list_all test xs ≡ true
list_all-from_is_among test [] each = refl
list_all-from_is_among test (x ∷ xs) each =
    and_from _ _ (each x (or_left _ _ (eq-eqb x x refl))) (list_all-from_is_among test xs (λ q among. each q (or_right _ _ among)))
