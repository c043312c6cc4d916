use Rattle.std.proofs.Common.{◌≡◌, ℕ, ◌+◌, ◌-◌, ◌<◌, ◌≤◌, List, length, get_or, ap, sym, subst, ◌∙◌, arith, below_more, rules}
use Rattle.std.specs.List.Sorted.{IsNonDecreasing, IsStrictlyIncreasing}
use Rattle.std.specs.Slice.Iter.{windows_rest}
use Rattle.std.proofs.lemmas.Iterator.{window_more}
use Rattle.std.proofs.lemmas.List.Sorted.{IsNonDecreasingBy-from_sort}
use Rattle.net_reader.proofs.RisingOrder.{distinct-from_sorted, in_rising_order-from_sorted, repeated-from_sorted}
use Rattle.net_reader.proofs.bundles.in_rising_order.Goals as goal
use Rattle.net_reader.proofs.bundles.in_rising_order.Goals.{In-None}

-- each of so many numbers is below the next
abbrev Rise : List ℕ → ℕ → Type 0
Rise numbers count = (k : ℕ) → k < count → get_or numbers k 0 < get_or numbers (k + 1) 0

-- one more is, where it differs from the next
rise_more : (numbers : List ℕ) (left fewer first second : ℕ) → IsNonDecreasing numbers → fewer + 1 ≡ left → 2 ≤ left → left ≤ length numbers
    → first ≡ get_or numbers (length numbers - left + 0) 0 → second ≡ get_or numbers (length numbers - left + 1) 0 → (first ≡ second → ⊥) → Rise numbers (length numbers - left) → Rise numbers (length numbers - fewer)
rise_more numbers left fewer first second sorted less two within is_first is_second differ rise k before =
    let i = length numbers - left in
    let place : i + 0 ≡ i = omega arith in
    let no_less : get_or numbers i 0 ≤ get_or numbers (i + 1) 0 = sorted i (i + 1) 0 (omega arith) (omega arith) in
    let other : get_or numbers i 0 ≡ get_or numbers (i + 1) 0 → ⊥ = λ same. differ (is_first ∙ ap (λ (j : ℕ). get_or numbers j 0) place ∙ same ∙ sym is_second) in
    below_more (λ (j : ℕ). get_or numbers j 0 < get_or numbers (j + 1) 0) i rise (strictly (get_or numbers i 0) (get_or numbers (i + 1) 0) no_less other) k (omega arith)
  where
    strictly : (a b : ℕ) → a ≤ b → (a ≡ b → ⊥) → a < b
    strictly a b le ne = grind arith

-- all are, where less than two are left
rise_all : (whole sorted : List ℕ) (left : ℕ) → whole ≡ sorted → left < 2 → left ≤ length whole → Rise whole (length whole - left) → IsStrictlyIncreasing sorted
rise_all whole sorted left same few within rise = subst (λ (numbers : List ℕ). IsStrictlyIncreasing numbers) same (λ k inside. rise k (omega arith))

pub returns-then-pair-clause-distinct : goal.returns-then-pair-clause-distinct
returns-then-pair-clause-distinct c =
    let whole = windows_rest c.into_iter-pair-iterator.result in
    let sorted = c.sort_unstable.new.self.items in
    let same : whole ≡ sorted = ap windows_rest c.into_iter-pair-iterator.ensures.into_iter_gives ∙ c.windows-pair-items.ensures.rest ∙ c.deref.ensures.value in
    let h = window_more whole c.loop-pair.pair-iterator c.next.new.self _ _ c.in-Some.is c.next.ensures.steps (search rules) (search rules) (search rules) in
    let i = length whole - length (windows_rest c.loop-pair.pair-iterator) in
    let place : i + 0 ≡ i = omega arith in
    let equal : get_or whole i 0 ≡ get_or whole (i + 1) 0 = ap (λ (j : ℕ). get_or whole j 0) (sym place) ∙ sym (h.3 0 0 (search rules)) ∙ c.if-pair.true ∙ h.3 1 0 (search rules) in
    sym (repeated-from_sorted c.args.numbers.items sorted c.sort_unstable.ensures.permutation i (omega (arith, ap length same, h.2, c.loop-pair.invariant.0, c.loop-pair.invariant.1))
    (subst (λ (numbers : List ℕ). get_or numbers i 0 ≡ get_or numbers (i + 1) 0) same equal))

pub loop-pair-preserved : goal.loop-pair-preserved
loop-pair-preserved c =
    let whole = windows_rest c.into_iter-pair-iterator.result in
    let same : whole ≡ c.sort_unstable.new.self.items = ap windows_rest c.into_iter-pair-iterator.ensures.into_iter_gives ∙ c.windows-pair-items.ensures.rest ∙ c.deref.ensures.value in
    let h = window_more whole c.loop-pair.pair-iterator c.next.new.self _ _ c.in-Some.is c.next.ensures.steps (search rules) (search rules) (search rules) in
    let sorted : IsNonDecreasing whole = subst (λ (numbers : List ℕ). IsNonDecreasing numbers) (sym same) (IsNonDecreasingBy-from_sort (λ number. number) _ c.sort_unstable.ensures.sorted) in (
      c.next.ensures.steps.0 ∙ c.loop-pair.invariant.0,
      omega (arith, h.0, c.loop-pair.invariant.1),
      h.1,
      rise_more whole _ _ _ _ sorted h.0 (omega (arith, h.2, c.loop-pair.invariant.0)) c.loop-pair.invariant.1 (h.3 0 0 (search rules)) (h.3 1 0 (search rules)) c.if-pair.false c.loop-pair.invariant.3,
    )

-- the sorted numbers rise
rises : (c : In-None) → IsStrictlyIncreasing c.sort_unstable.new.self.items
rises c =
    rise_all (windows_rest c.into_iter-pair-iterator.result) c.sort_unstable.new.self.items (length (windows_rest c.loop-pair.pair-iterator))
    (ap windows_rest c.into_iter-pair-iterator.ensures.into_iter_gives ∙ c.windows-pair-items.ensures.rest ∙ c.deref.ensures.value)
    (omega (arith, c.in-None.ensures.steps.1.0, c.loop-pair.invariant.0)) c.loop-pair.invariant.1 c.loop-pair.invariant.3

pub returns-clause-distinct : goal.returns-clause-distinct
returns-clause-distinct c = sym (distinct-from_sorted c.args.numbers.items c.sort_unstable.new.self.items c.sort_unstable.ensures.permutation (rises c))

pub returns-clause-rising : goal.returns-clause-rising
returns-clause-rising c = in_rising_order-from_sorted c.args.numbers.items c.sort_unstable.new.self.items c.sort_unstable.ensures.permutation (rises c)
