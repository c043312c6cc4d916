-- A cycle found against its direction, walked from its least link on.
use Rattle.std.specs.Prelude.{◌≡◌, ◌≢◌, ◌<◌, ◌≤◌, ◌+◌, ◌-◌, ℕ, suc, true, false, nat_eq, nat_le, All, List, [], ◌∷◌, length, slice_index, slice_index_or}
use Rattle.std.specs.List.{list_any}
use Rattle.std.proofs.Common.{refl, sym, ◌∙◌, ap, subst, arith, inl, inr, ◌⊎◌}
use Rattle.std.proofs.lemmas.Bool.{and_from, not_from_false, or_from, ne_eqb, cond-true, cond-false, cases_lt, cases_order, le-leb, lt-leb}
use Rattle.std.proofs.lemmas.List.{get_or_default}
use Rattle.net_model.specs.Lists.{are_distinct}
use Rattle.net_model.specs.Walks.{head_of, tail_of}
use Rattle.net_model.specs.declared.Link.{Link}
use Rattle.topo_order.specs.GoingBack.{IsTurn, IsWalkedFrom, place_in_turn}
use Rattle.topo_order.proofs.OrderLaws.{walk_from}
use Rattle.topo_order.specs.Order.{IsShownCycle, nodes_left}

-- a node that none of them leaves
none_leaves : (links : List Link) (node : ℕ) (walk : List ℕ) → ((k : ℕ) → k < length walk → node ≢ tail_of links (slice_index walk k)) → list_any (nat_eq node) (nodes_left links walk) ≡ false
none_leaves links node [] none = refl
none_leaves links node (link ∷ walk) none = or_from _ _ (ne_eqb _ _ (none 0 (omega arith))) (none_leaves links node walk (λ k below. none (suc k) (omega arith)))

-- links that leave different nodes
distinct_from : (links : List Link) (walk : List ℕ) → ((i j : ℕ) → i < j → j < length walk → tail_of links (slice_index walk i) ≢ tail_of links (slice_index walk j))
    → are_distinct nat_eq (nodes_left links walk) ≡ true
distinct_from links [] once = refl
distinct_from links (link ∷ walk) once =
    and_from _ _ (not_from_false _ (none_leaves links (tail_of links link) walk (λ k below. once 0 (suc k) (omega arith) (omega arith))))
    (distinct_from links walk (λ i j before below. once (suc i) (suc j) (omega arith) (omega arith)))

-- where a link of the walk stands in the turn
place_up_to : (count from k : ℕ) → k ≤ from → place_in_turn count from k ≡ from - k
place_up_to count from k most = cond-true (nat_le k from) _ _ (le-leb k from most)

place_past : (count from k : ℕ) → from < k → place_in_turn count from k ≡ from + (count - k)
place_past count from k past = cond-false (nat_le k from) _ _ (lt-leb k from past)

module _ (links : List Link) (turn : List ℕ) (from : ℕ) (cycle : List ℕ) (is : IsTurn links turn) (begins : from < length turn)
    (least : All (λ link. slice_index turn from ≤ link) turn) (walked : IsWalkedFrom turn from cycle) where
  at : (k : ℕ) → k < length turn → (place : ℕ) → place_in_turn (length turn) from k ≡ place → slice_index cycle k ≡ slice_index turn place
  at k inside place is = walked.each k inside ∙ ap (λ n. slice_index turn n) is

  up_to : (k : ℕ) → k < length turn → k ≤ from → slice_index cycle k ≡ slice_index turn (from - k)
  up_to k inside most = at k inside (from - k) (place_up_to (length turn) from k most)

  past : (k : ℕ) → k < length turn → from < k → slice_index cycle k ≡ slice_index turn (from + (length turn - k))
  past k inside most = at k inside (from + (length turn - k)) (place_past (length turn) from k most)

  -- a link of the turn leads into the tail of the one before
  led : (a b : ℕ) → a ≡ b + 1 → a < length turn → tail_of links (slice_index turn b) ≡ head_of links (slice_index turn a)
  led a b next inside = let In : ℕ → Type 0 = λ n. tail_of links (slice_index turn b) ≡ head_of links (slice_index turn n) in subst In (sym next) (sym (is.back b (omega arith)))

  led_round : (a b : ℕ) → a ≡ 0 → b ≡ length turn - 1 → tail_of links (slice_index turn b) ≡ head_of links (slice_index turn a)
  led_round a b first last = ap (λ n. tail_of links (slice_index turn n)) last ∙ sym is.closed ∙ ap (λ n. head_of links (slice_index turn n)) (sym first)

  next : (k : ℕ) → suc k < length turn → tail_of links (slice_index cycle (suc k)) ≡ head_of links (slice_index cycle k)
  next k inside =
      elim (cases_order k from) [
        | inl same ↦
            ap (tail_of links) (past (suc k) inside (omega arith)) ∙ led_round (from - k) (from + (length turn - suc k)) (omega arith) (omega arith)
            ∙ sym (ap (head_of links) (up_to k (omega arith) (omega arith)))
        | inr (inl less) ↦
            ap (tail_of links) (up_to (suc k) inside (omega arith)) ∙ led (from - k) (from - suc k) (omega arith) (omega arith)
            ∙ sym (ap (head_of links) (up_to k (omega arith) (omega arith)))
        | inr (inr more) ↦
            ap (tail_of links) (past (suc k) inside (omega arith)) ∙ led (from + (length turn - k)) (from + (length turn - suc k)) (omega arith) (omega arith)
            ∙ sym (ap (head_of links) (past k (omega arith) (omega arith)))
      ]

  closed : tail_of links (slice_index cycle 0) ≡ head_of links (slice_index cycle (length turn - 1))
  closed =
      ap (tail_of links) (up_to 0 (omega arith) (omega arith))
      ∙ elim (cases_lt from (length turn - 1)) [
        | inl more ↦ led (from + (length turn - (length turn - 1))) (from - 0) (omega arith) (omega arith) ∙ sym (ap (head_of links) (past (length turn - 1) (omega arith) more))
        | inr end ↦ led_round (from - (length turn - 1)) (from - 0) (omega arith) (omega arith) ∙ sym (ap (head_of links) (up_to (length turn - 1) (omega arith) end))
      ]

  -- the place in the turn of each link of the walk
  placed_at : (k : ℕ) → k < length turn → (p : ℕ) × (p < length turn) × (slice_index cycle k ≡ slice_index turn p) × ((k ≤ from) × (p + k ≡ from) ⊎ (from < k) × (p + k ≡ from + length turn))
  placed_at k inside = elim (cases_lt from k) [
    | inl more ↦ (from + (length turn - k), omega arith, past k inside more, inr (more, omega arith))
    | inr most ↦ (from - k, omega arith, up_to k inside most, inl (most, omega arith))
  ]

  apart : (i j p q : ℕ) → i < j → j < length turn → p < length turn → q < length turn → ((i ≤ from) × (p + i ≡ from) ⊎ (from < i) × (p + i ≡ from + length turn))
      → ((j ≤ from) × (q + j ≡ from) ⊎ (from < j) × (q + j ≡ from + length turn)) → p ≢ q
  apart i j p q before inside low high (inl one) (inl other) same = omega arith
  apart i j p q before inside low high (inl one) (inr other) same = omega arith
  apart i j p q before inside low high (inr one) (inl other) same = omega arith
  apart i j p q before inside low high (inr one) (inr other) same = omega arith

  once : (i j : ℕ) → i < j → j < length turn → tail_of links (slice_index cycle i) ≢ tail_of links (slice_index cycle j)
  once i j before inside same =
      let one = placed_at i (omega arith) in
      let other = placed_at j inside in
      let tails : tail_of links (slice_index turn one.0) ≡ tail_of links (slice_index turn other.0) = ap (tail_of links) (sym one.2) ∙ same ∙ ap (tail_of links) other.2 in
      elim (cases_order one.0 other.0) [
        | inl equal ↦ apart i j one.0 other.0 before inside one.1 other.1 one.3 other.3 equal
        | inr (inl less) ↦ is.once one.0 other.0 less other.1 tails
        | inr (inr more) ↦ is.once other.0 one.0 more one.1 (sym tails)
      ]

  pub shown_cycle : IsShownCycle links cycle
  shown_cycle =
      let count = walked.whole in
      record {
        is_cycle = record {
          some = omega (arith, count, is.some);
          walk = walk_from links cycle (λ k below. let p = placed_at k (omega (arith, count)) in rw p.2 (is.within p.0 p.1)) (λ k below. next k (omega (arith, count)));
          closed = closed ∙ ap (λ n. head_of links (slice_index cycle (n - 1))) (sym count);
        };
        once = distinct_from links cycle (λ i j before inside. once i j before (omega (arith, count)));
        least_first = λ k d below.
            let p = placed_at k (omega (arith, count)) in
            let first : slice_index cycle 0 ≡ slice_index turn from = up_to 0 (omega arith) (omega arith) ∙ ap (λ n. slice_index turn n) {x = from - 0} {y = from} (omega arith) in
            let here : slice_index_or cycle k d ≡ slice_index turn p.0 = get_or_default cycle k d 0 below ∙ p.2 in
            let low : slice_index turn from ≤ slice_index turn p.0 = least p.0 0 p.1 in
            omega (arith, first, here, low);
      }
