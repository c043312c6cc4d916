-- Numbers that follow each other, and numbers sorted without repeats.
use Rattle.std.proofs.Common.{◌≡◌, ℕ, zero, suc, ◌+◌, ◌<◌, true, false, ◌&&◌, ◌==◌, nat_eq, nat_lt, List, [], ◌∷◌, ◌++◌, length, get_or, inl, inr, refl, ap, sym, subst, ◌∙◌, arith}
use Rattle.std.specs.Prelude.{All}
use Rattle.std.specs.List.{IsDistinct, list_all, range_with_len}
use Rattle.std.specs.List.Sorted.{IsPermutation, IsStrictlyIncreasing}
use Rattle.std.specs.Cmp.{both_ways as same_truth}
use Rattle.std.proofs.lemmas.Bool.{and_from, and_parts, eq-eqb, eqb-true, false_from_ne_true, false≢true, lt-ltb, ltb-true, not_from_false, or_cases, or_left, or_right}
use Rattle.std.proofs.lemmas.Bool.Decides.{Decides-eqb}
use Rattle.std.proofs.lemmas.Cmp.{nat_eq_equiv}
use Rattle.std.proofs.lemmas.List.Elements.{All-from_recursion}
use Rattle.std.proofs.lemmas.List.Folds.{list_any_none}
use Rattle.std.proofs.lemmas.List.Sorted.{IsPermutation-sym, list_any-IsPermutation}
use Rattle.std.proofs.lemmas.Map.Keys.{IsDistinct-IsPermutation}
use Rattle.std.proofs.lemmas.Map.Made.{AllPairs-from_IsDistinct}
use Rattle.net_model.specs.Lists.{are_distinct, is_among, is_rising}
use Rattle.net_model.proofs.ListLaws.{IsDistinct-from_are_distinct, is_among-filter, is_among-range_with_len}
use Rattle.net_model.proofs.RenumberedParts.{is_rising-filter_range}
use Rattle.net_model.proofs.RisingLaws.{are_distinct-from_rising, is_rising-from_increasing, place-from_is_among}
use Rattle.net_reader.specs.Bundles.{in_rising_order}

-- ---- numbers that follow each other

-- with one more
pub range_with_len-more : (first count next : ℕ) → first + count ≡ next → range_with_len first (count + 1) ≡ range_with_len first count ++ next ∷ []
range_with_len-more first zero next is = ap (λ (n : ℕ). n ∷ []) (omega (arith, is))
range_with_len-more first (suc count) next is =
    let more : suc count + 1 ≡ suc (count + 1) = omega arith in
    ap (range_with_len first) more ∙ ap (λ (list : List ℕ). first ∷ list) (range_with_len-more (first + 1) count next (omega (arith, is)))

-- ---- rising numbers

-- what stands among numbers that are all above another is above it
above-is_among : (low : ℕ) (numbers : List ℕ) → list_all (nat_lt low) numbers ≡ true → (number : ℕ) → is_among numbers number ≡ true → low < number
above-is_among low [] above number among = absurd (false≢true among)
above-is_among low (one ∷ numbers) above number among =
    let parts = and_parts (nat_lt low one) (list_all (nat_lt low) numbers) above in
    elim (or_cases (one == number) (is_among numbers number) among) [
      | inl here ↦ omega (arith, ltb-true low one parts.0, eqb-true one number here)
      | inr later ↦ above-is_among low numbers parts.1 number later
    ]

-- the first of numbers stands among them
first_among : (number : ℕ) (numbers : List ℕ) → is_among (number ∷ numbers) number ≡ true
first_among number numbers = or_left _ _ (eq-eqb number number refl)

-- of rising numbers the first is no greater than any
first_least : (first : ℕ) (numbers : List ℕ) (number : ℕ) → is_rising (first ∷ numbers) ≡ true → is_among (first ∷ numbers) number ≡ true → number < first → ⊥
first_least first numbers number rising among less =
    elim (or_cases (first == number) (is_among numbers number) among) [
      | inl here ↦ omega (arith, eqb-true first number here)
      | inr later ↦ omega (arith, above-is_among first numbers (and_parts _ _ rising).0 number later)
    ]

-- a number that stands among rising ones after the first stands among the others too, where those begin likewise
later_among : (first : ℕ) (xs ys : List ℕ) (number : ℕ) → is_rising (first ∷ xs) ≡ true → is_among (first ∷ ys) number ≡ true → is_among xs number ≡ true → is_among ys number ≡ true
later_among first xs ys number rising among later =
    elim (or_cases (first == number) (is_among ys number) among) [
      | inl here ↦ absurd (omega (arith, eqb-true first number here, above-is_among first xs (and_parts _ _ rising).0 number later))
      | inr found ↦ found
    ]

-- two lists of rising numbers are the same where the same numbers stand among them
same-from_rising : (xs ys : List ℕ) → is_rising xs ≡ true → is_rising ys ≡ true → ((number : ℕ) → is_among xs number ≡ is_among ys number) → xs ≡ ys
same-from_rising [] [] rises rise same = refl
same-from_rising [] (y ∷ ys) rises rise same = absurd (false≢true (same y ∙ first_among y ys))
same-from_rising (x ∷ xs) [] rises rise same = absurd (false≢true (sym (same x) ∙ first_among x xs))
same-from_rising (x ∷ xs) (y ∷ ys) rises rise same =
    let one : x ≡ y = neither_less x y (first_least x xs y rises (same y ∙ first_among y ys)) (first_least y ys x rise (sym (same x) ∙ first_among x xs)) in
    let begins : is_rising (x ∷ ys) ≡ true = subst (λ (n : ℕ). is_rising (n ∷ ys) ≡ true) (sym one) rise in
    let alike : (number : ℕ) → is_among (x ∷ xs) number ≡ is_among (x ∷ ys) number = λ number. same number ∙ ap (λ (n : ℕ). is_among (n ∷ ys) number) (sym one) in
    let rest : xs ≡ ys = same-from_rising xs ys (and_parts _ _ rises).1 (and_parts _ _ rise).1 (λ number. same_truth _ _
    (λ found. later_among x xs ys number rises (sym (alike number) ∙ or_right _ _ found) found)
    (λ found. later_among x ys xs number begins (alike number ∙ or_right _ _ found) found)) in
    λ i. one i ∷ rest i
  where
    neither_less : (a b : ℕ) → (b < a → ⊥) → (a < b → ⊥) → a ≡ b
    neither_less a b not_above not_below = grind arith

-- ---- numbers that are sorted

-- the test of distinct items, from the words of the library
are_distinct-from_IsDistinct : (numbers : List ℕ) → IsDistinct nat_eq numbers → are_distinct nat_eq numbers ≡ true
unfolding IsDistinct
are_distinct-from_IsDistinct [] apart = refl
are_distinct-from_IsDistinct (one ∷ numbers) apart =
    and_from _ _
    (not_from_false _ (list_any_none (nat_eq one) numbers (All-from_recursion (λ other. nat_eq one other ≡ false) numbers apart.0)))
    (are_distinct-from_IsDistinct numbers apart.1)

module _ (numbers sorted : List ℕ) (permuted : IsPermutation numbers sorted) where
  -- numbers are distinct where they rise once they are sorted
  pub distinct-from_sorted : IsStrictlyIncreasing sorted → are_distinct nat_eq numbers ≡ true
  distinct-from_sorted rises =
      are_distinct-from_IsDistinct numbers
      (IsDistinct-IsPermutation nat_eq nat_eq_equiv.symm sorted numbers (IsPermutation-sym numbers sorted permuted)
      (IsDistinct-from_are_distinct nat_eq sorted (are_distinct-from_rising sorted (is_rising-from_increasing sorted rises))))

  -- and they aren't where a number is the one after it
  pub repeated-from_sorted : (k : ℕ) → k + 1 < length sorted → get_or sorted k 0 ≡ get_or sorted (k + 1) 0 → are_distinct nat_eq numbers ≡ false
  repeated-from_sorted k within same =
      false_from_ne_true _ (λ apart.
      AllPairs-from_IsDistinct Decides-eqb sorted
      (IsDistinct-IsPermutation nat_eq nat_eq_equiv.symm numbers sorted permuted (IsDistinct-from_are_distinct nat_eq numbers apart)) k (k + 1) 0 (omega arith) within same)

  -- where they rise, they are the numbers in rising order
  pub in_rising_order-from_sorted : IsStrictlyIncreasing sorted → (count : ℕ) → All (λ number. number < count) numbers → sorted ≡ in_rising_order count numbers
  in_rising_order-from_sorted rises count below =
      same-from_rising sorted (in_rising_order count numbers) (is_rising-from_increasing sorted rises) (is_rising-filter_range (is_among numbers) 0 count) (λ number.
      sym (list_any-IsPermutation (λ one. one == number) numbers sorted permuted) ∙ sym (within number)
      ∙ sym (is_among-filter (is_among numbers) (range_with_len 0 count) number ∙ ap (λ b. is_among numbers number && b) (is_among-range_with_len count number)))
    where
      within : (number : ℕ) → (is_among numbers number && nat_lt number count) ≡ is_among numbers number
      within number = same_truth _ _ (λ both. (and_parts _ _ both).0) (λ among.
          let place = place-from_is_among numbers number among in
          and_from _ _ among (lt-ltb number count (subst (λ (n : ℕ). n < count) place.2 (below place.0 0 place.1))))
