-- Laws of rising lists of numbers: by their places, and of a sorted list with each number once.
use Rattle.std.specs.Prelude.{◌≡◌, ◌<◌, ◌≤◌, ◌==◌, ℕ, zero, suc, true, List, [], ◌∷◌, length, nat_eq, nat_lt}
use Rattle.std.specs.List.{Contains, dedup, list_all}
use Rattle.std.specs.List.Sorted.{IsSorted, IsStrictlyIncreasing}
use Rattle.std.specs.Ordering.{nat_cmp}
use Rattle.std.proofs.Common.{arith, refl, ◌∙◌, get_or}
use Rattle.std.proofs.lemmas.Bool.{and_parts, and_from, eq-eqb, eqb-true, lt-ltb, ltb-true, ne_eqb, not_from_false}
use Rattle.std.proofs.lemmas.Cmp.{nat_eq_equiv}
use Rattle.std.proofs.lemmas.List.{get_or_default}
use Rattle.std.proofs.lemmas.List.Folds.{list_any_none}
use Rattle.std.proofs.lemmas.List.Kept.{AllPairs-from_increasing, Contains-dedup_nat, Contains-from_dedup}
use Rattle.std.proofs.lemmas.List.Sums.{AllPass-from_list_all, list_all-from_AllPass, position_or_len_is}
use Rattle.std.proofs.lemmas.Map.Keys.{IsStrictlyIncreasing-dedup}
use Rattle.std.proofs.lemmas.Map.Views.{Contains-from_any, list_any-from_Contains}
use Rattle.std.specs.Cmp.{both_ways as same_truth}
use Rattle.item_list.proofs.Positions.{place_in}
use Rattle.net_model.proofs.ListLaws.{is_among-from_list_any, list_any-from_is_among}
use Rattle.net_model.specs.Lists.{are_distinct, is_among, is_rising}

-- a rising list has smaller numbers at earlier places
pub rising-below : (xs : List ℕ) (i j : ℕ) → is_rising xs ≡ true → i < j → j < length xs → get_or xs i 0 < get_or xs j 0
rising-below [] i j rising before within = absurd (omega arith)
rising-below (x ∷ xs) i zero rising before within = absurd (omega arith)
rising-below (x ∷ xs) zero (suc j) rising before within =
    ltb-true x (get_or xs j 0) (AllPass-from_list_all (nat_lt x) xs (and_parts _ _ rising).0 j 0 (omega arith))
rising-below (x ∷ xs) (suc i) (suc j) rising before within = rising-below xs i j (and_parts _ _ rising).1 (omega arith) (omega arith)

-- and no greater ones
pub rising-at_most : (xs : List ℕ) (i j : ℕ) → is_rising xs ≡ true → i ≤ j → j < length xs → get_or xs i 0 ≤ get_or xs j 0
rising-at_most [] i j rising before within = absurd (omega arith)
rising-at_most (x ∷ xs) zero zero rising before within = omega arith
rising-at_most (x ∷ xs) (suc i) zero rising before within = absurd (omega arith)
rising-at_most (x ∷ xs) zero (suc j) rising before within =
    let above = rising-below (x ∷ xs) zero (suc j) rising (omega arith) within in
    omega (arith, above)
rising-at_most (x ∷ xs) (suc i) (suc j) rising before within = rising-at_most xs i j (and_parts _ _ rising).1 (omega arith) (omega arith)

-- a number of a rising list is its place at least
pub rising-place : (xs : List ℕ) (i : ℕ) → is_rising xs ≡ true → i < length xs → i ≤ get_or xs i 0
rising-place xs zero rising within = omega arith
rising-place xs (suc i) rising within =
    let before = rising-place xs i rising (omega arith) in
    let above = rising-below xs i (suc i) rising (omega arith) within in
    omega (arith, before, above)

-- rising numbers are distinct
pub are_distinct-from_rising : (xs : List ℕ) → is_rising xs ≡ true → are_distinct nat_eq xs ≡ true
are_distinct-from_rising [] rising = refl
are_distinct-from_rising (x ∷ xs) rising =
    let parts = and_parts (list_all (nat_lt x) xs) (is_rising xs) rising in
    and_from _ _
    (not_from_false _ (list_any_none (nat_eq x) xs (λ k d within. ne_eqb x _ (λ same. absurd (omega (arith, same, ltb-true x _ (AllPass-from_list_all (nat_lt x) xs parts.0 k d within)))))))
    (are_distinct-from_rising xs parts.1)

-- so rising numbers below a bound are at most as many
pub length-is_rising : (xs : List ℕ) (bound : ℕ) → is_rising xs ≡ true → list_all (λ n. nat_lt n bound) xs ≡ true → length xs ≤ bound
length-is_rising [] bound rising below = omega arith
length-is_rising (x ∷ xs) bound rising below =
    let last = ltb-true _ bound (AllPass-from_list_all (λ n. nat_lt n bound) (x ∷ xs) below (length xs) 0 (omega arith)) in
    let place = rising-place (x ∷ xs) (length xs) rising (omega arith) in
    omega (arith, last, place)

-- a list with smaller numbers at earlier places rises
pub is_rising-from_places : (xs : List ℕ) → ((i j d : ℕ) → i < j → j < length xs → get_or xs i d < get_or xs j d) → is_rising xs ≡ true
is_rising-from_places [] below = refl
is_rising-from_places (x ∷ xs) below =
    and_from _ _
    (list_all-from_AllPass (nat_lt x) xs (λ k d within. lt-ltb _ _ (below zero (suc k) d (omega arith) (omega arith))))
    (is_rising-from_places xs (λ i j d before within. below (suc i) (suc j) d (omega arith) (omega arith)))

-- so does one where each number is below the next
pub is_rising-from_increasing : (xs : List ℕ) → IsStrictlyIncreasing xs → is_rising xs ≡ true
is_rising-from_increasing xs increasing = is_rising-from_places xs (AllPairs-from_increasing xs increasing)

-- a sorted list with each number once rises
pub is_rising-dedup : (xs : List ℕ) → IsSorted nat_cmp xs → is_rising (dedup nat_eq xs) ≡ true
is_rising-dedup xs sorted = is_rising-from_increasing (dedup nat_eq xs) (IsStrictlyIncreasing-dedup xs sorted)

-- a number is in a list where the test finds it
pub Contains-from_is_among : (xs : List ℕ) (number : ℕ) → is_among xs number ≡ true → Contains xs number
Contains-from_is_among xs number among = Contains-from_any eqb-true number xs (list_any-from_is_among xs number among)

pub is_among-from_Contains : (xs : List ℕ) (number : ℕ) → Contains xs number → is_among xs number ≡ true
is_among-from_Contains xs number has = is_among-from_list_any xs number (list_any-from_Contains nat_eq_equiv number xs has)

-- and it stands at a place there
pub place-from_is_among : (xs : List ℕ) (number : ℕ) → is_among xs number ≡ true → (k : ℕ) × (k < length xs) × (get_or xs k 0 ≡ number)
place-from_is_among xs number among =
    let there = Contains-from_is_among xs number among in
    (there.0, there.1, get_or_default xs there.0 0 number there.1 ∙ there.2)

-- a list with each run of a number made one has the same numbers
pub is_among-dedup : (xs : List ℕ) (number : ℕ) → is_among (dedup nat_eq xs) number ≡ is_among xs number
is_among-dedup xs number =
    same_truth _ _
    (λ among. is_among-from_Contains xs number (Contains-from_dedup nat_eq xs number (Contains-from_is_among (dedup nat_eq xs) number among)))
    (λ among. is_among-from_Contains (dedup nat_eq xs) number (Contains-dedup_nat xs number (Contains-from_is_among xs number among)))

-- in a rising list the number at a place has that place
pub place_in-at : (xs : List ℕ) (i : ℕ) → is_rising xs ≡ true → i < length xs → place_in xs (get_or xs i 0) ≡ i
place_in-at xs i rises within =
    position_or_len_is (λ one. one == get_or xs i 0) xs i 0 (omega (arith, within))
    (λ k before. let less = rising-below xs k i rises before within in ne_eqb (get_or xs k 0) (get_or xs i 0) (omega (arith, less)))
    (λ inside. eq-eqb (get_or xs i 0) (get_or xs i 0) refl)
