-- What holds of the order of links.
use Rattle.std.specs.Prelude.{◌≡◌, ◌≢◌, ◌<◌, ◌≤◌, ◌+◌, ◌-◌, ℕ, zero, suc, Bool, true, false, not, ◌||◌, ◌==◌, nat_eq, List, [], ◌∷◌, ◌++◌, All, length, take, drop, slice_index, Option, Some, None}
use Rattle.std.specs.List.{list_all, list_any, range_with_len, IsDistinct}
use Rattle.std.specs.Option.{option_map_or}
use Rattle.std.proofs.Common.{refl, sym, ◌∙◌, ap, subst, get_or, arith, inl, inr, ◌⊎◌}
use Rattle.std.proofs.lemmas.Bool.{false_from_ne_true, and_parts, and_cases, or_cases, or_parts, or_from, or_left, or_right, eqb-true, eqb-false, eq-eqb, ne_eqb, not-true, not-false, not_from_false, cases_eq, both_ways, true_from_ne_false}
use Rattle.std.proofs.lemmas.List.{length-append, length-drop, length-take-le, take-append-le, get_or-take, get_or-drop, get_or_default}
use Rattle.std.proofs.lemmas.Map.Keys.{IsDistinct-from_apart, IsDistinct-push}
use Rattle.std.proofs.lemmas.Cmp.{nat_eq_equiv}
use Rattle.std.proofs.Math.Bool.{or-false}
use Rattle.std.proofs.Math.Nat.{zero-add}
use Rattle.std.proofs.Math.ListN.{get_or-append}
use Rattle.std.proofs.Math.Seq.{take-suc, take-length, take-append_seam, get_or-append_seam}
use Rattle.std.proofs.lemmas.List.Folds.{list_any-append, list_any_at}
use Rattle.std.proofs.lemmas.List.Sums.{AllPass-from_list_all, list_all-from_AllPass}
use Rattle.std.proofs.lemmas.List.FromFn.{length-range_with_len, get_or-range_with_len}
use Rattle.std.proofs.lemmas.Map.Steps.{length-le_from_distinct_below, le-length_from_below}
use Rattle.item_list.proofs.Ranges.{find_fails, find_first, find_nothing, find_passes}
use Rattle.net_model.proofs.ListLaws.{is_among-from_list_any, list_any-from_is_among}
use Rattle.net_model.specs.Lists.{is_among}
use Rattle.net_model.proofs.WalkLaws.{IsWalk-below}
use Rattle.net_model.specs.Walks.{IsAcyclic, IsCycle, IsWalk, head_of, tail_of}
use Rattle.net_model.specs.declared.Link.{Link}
use Rattle.topo_order.specs.Order.{IsPlaced, is_reached, is_ready, next_link, order_from, order_of}

-- a link among those that were placed and one more
pub is_among-append : (placed : List ℕ) (x l : ℕ) → is_among (placed ++ x ∷ []) l ≡ (is_among placed l || (x == l))
is_among-append placed x l = list_any-append (λ one. one == l) placed (x ∷ []) ∙ ap (λ b. is_among placed l || b) (or-false (x == l))

-- which says nothing new of any other
pub is_among-append_other : (placed : List ℕ) (x l : ℕ) → l ≢ x → is_among (placed ++ x ∷ []) l ≡ is_among placed l
is_among-append_other placed x l other =
    is_among-append placed x l ∙ ap (λ b. is_among placed l || b) (ne_eqb x l (λ same. other (sym same))) ∙ or-false (is_among placed l)

-- a node whose links were all placed is reached
pub reached_from : (links : List Link) (placed : List ℕ) (node : ℕ) → ((l : ℕ) → l < length links → head_of links l ≡ node → is_among placed l ≡ true) → is_reached links placed node ≡ true
reached_from links placed node all =
    let test : ℕ → Bool = λ link. not (head_of links link == node) || is_among placed link in
    list_all-from_AllPass test (range_with_len 0 (length links))
    (λ k d within.
    let inside : k < length links = rw length-range_with_len at within in
    let here : test k ≡ true = elim (cases_eq (head_of links k) node) [
      | inl leads ↦ or_right (not (head_of links k == node)) (is_among placed k) (all k inside leads)
      | inr other ↦ or_left (not (head_of links k == node)) (is_among placed k) (not_from_false _ (ne_eqb _ _ other))
    ] in
    let At : ℕ → Type 0 = λ x. test x ≡ true in
    subst At (sym (get_or-range_with_len 0 (length links) k d inside ∙ zero-add k)) here)

-- and all links into a node that is reached were placed
pub reached_at : (links : List Link) (placed : List ℕ) (node : ℕ) → is_reached links placed node ≡ true → (l : ℕ) → l < length links → head_of links l ≡ node → is_among placed l ≡ true
reached_at links placed node all l within leads =
    let test : ℕ → Bool = λ link. not (head_of links link == node) || is_among placed link in
    let At : ℕ → Type 0 = λ x. test x ≡ true in
    let number : get_or (range_with_len 0 (length links)) l 0 ≡ l = get_or-range_with_len 0 (length links) l 0 within ∙ zero-add l in
    let inside : l < length (range_with_len 0 (length links)) = rw length-range_with_len within in
    let here : test l ≡ true = subst At number (AllPass-from_list_all test (range_with_len 0 (length links)) all l 0 inside) in
    elim (or_cases _ _ here) [ inl other ↦ absurd (eqb-false _ _ (not-true _ other) leads) | inr placed ↦ placed ]

-- the next link, from what is ready
pub next_link-first : (links : List Link) (placed : List ℕ) (x : ℕ) → x < length links → is_ready links placed x ≡ true → ((l : ℕ) → l < x → is_ready links placed l ≡ false) → next_link links placed ≡ Some x
next_link-first links placed x within ready before =
    find_first (is_ready links placed) 0 (length links) x (omega arith) (omega arith) ready (λ l above below. before l below)

pub next_link-none : (links : List Link) (placed : List ℕ) → ((l : ℕ) → l < length links → is_ready links placed l ≡ false) → next_link links placed ≡ None
next_link-none links placed none = find_nothing (is_ready links placed) 0 (length links) (λ l above below. none l (omega arith))

-- the next link is one, and it is ready
pub next_link-ready : (links : List Link) (placed : List ℕ) (x : ℕ) → next_link links placed ≡ Some x → (x < length links) × (is_ready links placed x ≡ true)
next_link-ready links placed x found =
    let parts = find_passes (is_ready links placed) 0 (length links) x found in
    (omega (arith, parts.1), parts.2)

-- where there is no next link, none is ready
pub next_link-stuck : (links : List Link) (placed : List ℕ) → next_link links placed ≡ None → (l : ℕ) → l < length links → is_ready links placed l ≡ false
next_link-stuck links placed none l within = find_fails (is_ready links placed) 0 (length links) none l (omega arith) (omega arith)

-- a link that is ready isn't placed, and its tail is reached
pub ready_parts : (links : List Link) (placed : List ℕ) (x : ℕ) → is_ready links placed x ≡ true → (is_among placed x ≡ false) × (is_reached links placed (tail_of links x) ≡ true)
ready_parts links placed x ready = let parts = and_parts _ _ ready in (not-true _ parts.0, parts.1)

-- nothing placed
pub IsPlaced-none : (links : List Link) → IsPlaced links []
unfolding IsDistinct
IsPlaced-none links = record { below = λ l among. cc; distinct = tt; after = λ place within. absurd (omega arith); reached = λ l among. cc }

-- distinct numbers, and one that isn't among them
distinct_more : (placed : List ℕ) (x : ℕ) → IsDistinct nat_eq placed → is_among placed x ≡ false → IsDistinct nat_eq (placed ++ x ∷ [])
distinct_more placed x distinct fresh = IsDistinct-push nat_eq_equiv placed x distinct (false_from_ne_true _ (λ found. both_ways _ fresh (is_among-from_list_any placed x found)))

-- the last link is after all links into its tail
after_last : (links : List Link) (placed : List ℕ) (x place : ℕ) → place ≡ length placed → is_reached links placed (tail_of links x) ≡ true
    → is_reached links (take place (placed ++ x ∷ [])) (tail_of links (slice_index (placed ++ x ∷ []) place)) ≡ true
after_last links placed x place last reached =
    let Reached : ℕ → Type 0 = λ n. is_reached links (take n (placed ++ x ∷ [])) (tail_of links (slice_index (placed ++ x ∷ []) n)) ≡ true in
    subst Reached (sym last) (rw (take-append_seam placed (x ∷ []), get_or-append_seam placed x [] 0) reached)

-- and those before it stay so
after_before : (links : List Link) (placed : List ℕ) (x place : ℕ) → place < length placed → is_reached links (take place placed) (tail_of links (slice_index placed place)) ≡ true
    → is_reached links (take place (placed ++ x ∷ [])) (tail_of links (slice_index (placed ++ x ∷ []) place)) ≡ true
after_before links placed x place within reached =
    let most : place ≤ length placed = omega arith in
    rw (take-append-le place placed (x ∷ []) most, get_or-append placed (x ∷ []) 0 place within) reached

-- a node that is reached stays so
pub is_reached-append : (links : List Link) (placed : List ℕ) (x node : ℕ) → is_reached links placed node ≡ true → is_reached links (placed ++ x ∷ []) node ≡ true
is_reached-append links placed x node reached =
    reached_from links (placed ++ x ∷ []) node (λ l within leads. is_among-append placed x l ∙ or_left _ _ (reached_at links placed node reached l within leads))

-- a link that is ready, placed
pub IsPlaced-append : (links : List Link) (placed : List ℕ) (x : ℕ) → IsPlaced links placed → x < length links → is_ready links placed x ≡ true → IsPlaced links (placed ++ x ∷ [])
IsPlaced-append links placed x sound within ready =
    let parts = ready_parts links placed x ready in
    record {
      below = λ l among. elim (or_cases _ _ (sym (is_among-append placed x l) ∙ among)) [
        | inl before ↦ sound.below l before
        | inr here ↦ let same : x ≡ l = eqb-true _ _ here in omega arith
      ];
      distinct = distinct_more placed x sound.distinct parts.0;
      after = λ place inside. elim (cases_eq place (length placed)) [
        | inl last ↦ after_last links placed x place last parts.1
        | inr other ↦ let shorter : place < length placed = omega (arith, length-append placed (x ∷ [])) in after_before links placed x place shorter (sound.after place shorter)
      ];
      reached = λ l among. elim (or_cases _ _ (sym (is_among-append placed x l) ∙ among)) [
        | inl before ↦ is_reached-append links placed x (tail_of links l) (sound.reached l before)
        | inr here ↦ is_reached-append links placed x (tail_of links l) (let Reached : ℕ → Type 0 = λ n. is_reached links placed (tail_of links n) ≡ true in subst Reached (eqb-true _ _ here) parts.1)
      ];
    }

-- the order, one link further
pub order_from-step : (links : List Link) (placed : List ℕ) (x : ℕ) → length placed < length links → next_link links placed ≡ Some x
    → order_from links (length links - length placed) placed ≡ order_from links (length links - length (placed ++ x ∷ [])) (placed ++ x ∷ [])
order_from-step links placed x room found =
    let more = length links - length (placed ++ x ∷ []) in
    let left : length links - length placed ≡ suc more = omega (arith, length-append placed (x ∷ [])) in
    ap (λ n. order_from links n placed) left ∙ ap (λ next. option_map_or (λ link. order_from links more (placed ++ link ∷ [])) next placed) found

-- links placed one after another stay so
pub IsPlaced-order_from : (links : List Link) (more : ℕ) (placed : List ℕ) → IsPlaced links placed → IsPlaced links (order_from links more placed)
IsPlaced-order_from links zero placed sound = sound
IsPlaced-order_from links (suc more) placed sound =
    at (next_link links placed) refl (λ x found. let parts = next_link-ready links placed x found in
    IsPlaced-order_from links more (placed ++ x ∷ []) (IsPlaced-append links placed x sound parts.0 parts.1))
  where
    at : (next : Option ℕ) → next_link links placed ≡ next → ((x : ℕ) → next_link links placed ≡ Some x → IsPlaced links (order_from links more (placed ++ x ∷ [])))
        → IsPlaced links (option_map_or (λ link. order_from links more (placed ++ link ∷ [])) next placed)
    at None found rest = sound
    at (Some x) found rest = rest x found

-- the order has numbers of links, none twice, each after all links into its tail
pub IsPlaced-order_of : (links : List Link) → IsPlaced links (order_of links)
IsPlaced-order_of links = IsPlaced-order_from links (length links) [] (IsPlaced-none links)

-- where as many links were placed as there are, each was
pub is_among-whole : (links : List Link) (placed : List ℕ) → IsPlaced links placed → length placed ≡ length links → (l : ℕ) → l < length links → is_among placed l ≡ true
unfolding IsDistinct
is_among-whole links placed sound whole l within =
    true_from_ne_false (is_among placed l) (λ fresh.
    let distinct : IsDistinct nat_eq (placed ++ l ∷ []) = distinct_more placed l sound.distinct fresh in
    let few : length (placed ++ l ∷ []) ≤ length links =
    length-le_from_distinct_below (placed ++ l ∷ []) (length links) distinct (λ q found. below q (is_among-from_list_any (placed ++ l ∷ []) q found)) in
    absurd (omega (arith, length-append placed (l ∷ []))))
  where
    below : (q : ℕ) → is_among (placed ++ l ∷ []) q ≡ true → q < length links
    below q among = elim (or_cases _ _ (sym (is_among-append placed l q) ∙ among)) [
      | inl before ↦ sound.below q before
      | inr here ↦ let same : l ≡ q = eqb-true _ _ here in omega arith
    ]

-- where each link was placed, as many were as there are
pub length-whole : (links : List Link) (placed : List ℕ) → ((l : ℕ) → l < length links → is_among placed l ≡ true) → length links ≤ length placed
length-whole links placed all = le-length_from_below placed (length links) (λ q within. list_any-from_is_among placed q (all q within))

-- a link of a walk starts at the head of the one before
pub walk_next : (links : List Link) (walk : List ℕ) → IsWalk links walk → (k : ℕ) → suc k < length walk → tail_of links (slice_index walk (suc k)) ≡ head_of links (slice_index walk k)
walk_next links [] is k within = absurd (omega arith)
walk_next links (link ∷ []) is k within = absurd (omega arith)
walk_next links (link ∷ next ∷ walk) is zero within = is.1
walk_next links (link ∷ next ∷ walk) is (suc k) within = walk_next links (next ∷ walk) is.2 k (omega arith)

-- links that each start at the head of the one before
pub walk_from : (links : List Link) (walk : List ℕ) → ((k : ℕ) → k < length walk → slice_index walk k < length links)
    → ((k : ℕ) → suc k < length walk → tail_of links (slice_index walk (suc k)) ≡ head_of links (slice_index walk k)) → IsWalk links walk
walk_from links [] within next = tt
walk_from links (link ∷ []) within next = within 0 (omega arith)
walk_from links (link ∷ second ∷ walk) within next =
    (within 0 (omega arith), next 0 (omega arith), walk_from links (second ∷ walk) (λ k below. within (suc k) (omega arith)) (λ k below. next (suc k) (omega arith)))

-- on a cycle a link leads into the tail of each
cycle_before : (links : List Link) (cycle : List ℕ) → IsCycle links cycle → (k : ℕ) → k < length cycle
    → (j : ℕ) × (j < length cycle) × (head_of links (slice_index cycle j) ≡ tail_of links (slice_index cycle k))
cycle_before links cycle is zero within = (length cycle - 1, omega arith, sym is.closed)
cycle_before links cycle is (suc k) within = (k, omega arith, sym (walk_next links cycle is.walk k within))

-- no link of a cycle was placed
none_on_cycle : (links : List Link) (placed cycle : List ℕ) → IsPlaced links placed → IsCycle links cycle → (place : ℕ) → place ≤ length placed
    → (k : ℕ) → k < length cycle → is_among (take place placed) (slice_index cycle k) ≡ false
none_on_cycle links placed cycle sound is zero most k within = refl
none_on_cycle links placed cycle sound is (suc place) most k within =
    let inside : place < length placed = omega arith in
    let one = slice_index placed place in
    let before = none_on_cycle links placed cycle sound is place (omega arith) in
    ap (λ some. is_among some (slice_index cycle k)) (take-suc placed place 0 inside)
    ∙ is_among-append (take place placed) one (slice_index cycle k)
    ∙ or_from _ _ (before k within) (ne_eqb one (slice_index cycle k) (λ same.
    let last = cycle_before links cycle is k within in
    both_ways _ (before last.0 last.1)
    (reached_at links (take place placed) (tail_of links one) (sound.after place inside) (slice_index cycle last.0) (IsWalk-below links cycle is.walk last.0 0 last.1) (last.2 ∙ ap (tail_of links) (sym same)))))

-- where all links were placed, each after all links into its tail, there is no cycle
pub IsAcyclic-from_whole : (links : List Link) (placed : List ℕ) → IsPlaced links placed → length placed ≡ length links → IsAcyclic links
IsAcyclic-from_whole links placed sound whole cycle is =
    let first = slice_index cycle 0 in
    let all : is_among placed first ≡ true = is_among-whole links placed sound whole first (IsWalk-below links cycle is.walk 0 0 is.some) in
    both_ways (is_among placed first)
    (ap (λ some. is_among some first) (sym (take-length placed)) ∙ none_on_cycle links placed cycle sound is (length placed) (omega arith) 0 is.some) all

-- the order goes on to the last link, or until none may be placed next
order_end : (links : List Link) (more : ℕ) (placed : List ℕ) → (next_link links (order_from links more placed) ≡ None) ⊎ (length (order_from links more placed) ≡ length placed + more)
order_end links zero placed = inr (omega arith)
order_end links (suc more) placed = at (next_link links placed) refl (λ x. order_end links more (placed ++ x ∷ []))
  where
    at : (next : Option ℕ) → next_link links placed ≡ next
        → ((x : ℕ) → (next_link links (order_from links more (placed ++ x ∷ [])) ≡ None) ⊎ (length (order_from links more (placed ++ x ∷ [])) ≡ length (placed ++ x ∷ []) + more))
        → (next_link links (option_map_or (λ link. order_from links more (placed ++ link ∷ [])) next placed) ≡ None)
        ⊎ (length (option_map_or (λ link. order_from links more (placed ++ link ∷ [])) next placed) ≡ length placed + suc more)
    at None found rest = inl found
    at (Some x) found rest = elim (rest x) [
      | inl stuck ↦ inl stuck
      | inr whole ↦ inr (omega (arith, whole, length-append placed (x ∷ [])))
    ]

-- a number of a range that fails a test which not all pass
fails_in : (test : ℕ → Bool) (a n : ℕ) → list_all test (range_with_len a n) ≡ false → (k : ℕ) × (k < a + n) × (test k ≡ false)
fails_in test a zero none = cc
fails_in test a (suc n) none = elim (and_cases _ _ none) [
  | inl here ↦ (a, omega arith, here)
  | inr later ↦ let rest = fails_in test (a + 1) n later in (rest.0, omega (arith, rest.1), rest.2)
]

-- where none may be placed next, a link that isn't placed leads into the tail of one that isn't
pub unplaced_into : (links : List Link) (placed : List ℕ) → next_link links placed ≡ None → (l : ℕ) → l < length links → is_among placed l ≡ false
    → (k : ℕ) × (k < length links) × (head_of links k ≡ tail_of links l) × (is_among placed k ≡ false)
unplaced_into links placed stuck l within fresh =
    let test : ℕ → Bool = λ link. not (head_of links link == tail_of links l) || is_among placed link in
    let blocked : list_all test (range_with_len 0 (length links)) ≡ false = elim (and_cases _ _ (next_link-stuck links placed stuck l within)) [
      | inl among ↦ absurd (both_ways _ fresh (not-false _ among))
      | inr blocked ↦ blocked
    ] in
    let found = fails_in test 0 (length links) blocked in
    let parts = or_parts _ _ found.2 in
    (found.0, omega (arith, found.1), eqb-true _ _ (not-false _ parts.0), parts.1)

-- a walk of links that aren't placed, as long as is wanted
long_walk : (links : List Link) (placed : List ℕ) → next_link links placed ≡ None → (l : ℕ) → l < length links → is_among placed l ≡ false → (n : ℕ)
    → (first : ℕ) × (rest : List ℕ) × (length rest ≡ n) × IsWalk links (first ∷ rest) × (first < length links) × (is_among placed first ≡ false)
long_walk links placed stuck l within fresh zero = (l, [], refl, within, within, fresh)
long_walk links placed stuck l within fresh (suc n) =
    let walk = long_walk links placed stuck l within fresh n in
    let before = unplaced_into links placed stuck walk.0 walk.4 walk.5 in
    (before.0, walk.0 ∷ walk.1, omega (arith, walk.2), (before.1, sym before.2, walk.3), before.1, before.3)

-- a walk that takes a link twice has a cycle
module _ (links : List Link) (walk : List ℕ) (is : IsWalk links walk) (i j : ℕ) (before : i < j) (within : j < length walk) (same : slice_index walk i ≡ slice_index walk j) where
  part_at : (k : ℕ) → k < j - i → slice_index (take (j - i) (drop i walk)) k ≡ slice_index walk (i + k)
  part_at k inside = get_or-take (j - i) (drop i walk) k 0 inside ∙ get_or-drop i walk k 0

  part_length : length (take (j - i) (drop i walk)) ≡ j - i
  part_length = let most : j - i ≤ length (drop i walk) = omega (arith, length-drop i walk) in length-take-le (j - i) (drop i walk) most

  pub cycle_of_walk : IsCycle links (take (j - i) (drop i walk))
  cycle_of_walk =
      let count = part_length in
      record {
        some = omega (arith, count);
        walk = walk_from links (take (j - i) (drop i walk))
            (λ k inside. let old : i + k < length walk = omega (arith, count) in
            let at = part_at k (omega (arith, count)) in rw at (IsWalk-below links walk is (i + k) 0 old))
            (λ k inside. let old : suc (i + k) < length walk = omega (arith, count) in
            let place : i + suc k ≡ suc (i + k) = omega arith in
            ap (tail_of links) (part_at (suc k) (omega (arith, count)) ∙ ap (λ n. slice_index walk n) place) ∙ walk_next links walk is (i + k) old
            ∙ sym (ap (head_of links) (part_at k (omega (arith, count)))));
        closed =
            let last : suc (j - 1) ≡ j = omega arith in
            let inside : suc (j - 1) < length walk = omega arith in
            let first : i + 0 ≡ i = omega arith in
            let end : i + (length (take (j - i) (drop i walk)) - 1) ≡ j - 1 = omega (arith, count) in
            ap (tail_of links) (part_at 0 (omega arith) ∙ ap (λ n. slice_index walk n) first ∙ same ∙ ap (λ n. slice_index walk n) (sym last)) ∙ walk_next links walk is (j - 1) inside
            ∙ sym (ap (head_of links) (part_at (length (take (j - i) (drop i walk)) - 1) (omega (arith, count)) ∙ ap (λ n. slice_index walk n) end));
      }

-- links that were placed are at most as many as there are
pub length-placed : (links : List Link) (placed : List ℕ) → IsPlaced links placed → length placed ≤ length links
length-placed links placed sound = length-le_from_distinct_below placed (length links) sound.distinct (λ q found. sound.below q (is_among-from_list_any placed q found))

-- where no link may be placed next, and there is no cycle, all are placed
pub whole_from_stuck : (links : List Link) (placed : List ℕ) → IsPlaced links placed → IsAcyclic links → next_link links placed ≡ None → length placed ≡ length links
whole_from_stuck links placed sound acyclic stuck =
    let all : length links ≤ length placed = length-whole links placed (λ l within. true_from_ne_false _ (λ fresh.
    let long = long_walk links placed stuck l within fresh (length links) in
    let walk : List ℕ = long.0 ∷ long.1 in
    let is : IsWalk links walk = long.3 in
    let distinct : IsDistinct nat_eq walk = IsDistinct-from_apart nat_eq walk (λ i j d before inside. ne_eqb _ _ (λ same.
    acyclic (take (j - i) (drop i walk)) (cycle_of_walk links walk is i j before inside (get_or_default walk i 0 d (omega arith) ∙ same ∙ get_or_default walk j d 0 inside)))) in
    let few : length walk ≤ length links = length-le_from_distinct_below walk (length links) distinct (λ q found. each walk is q found) in
    absurd (omega (arith, few, long.2)))) in
    let most = length-placed links placed sound in
    omega (arith, all, most)
  where
    each : (walk : List ℕ) → IsWalk links walk → (q : ℕ) → list_any (nat_eq q) walk ≡ true → q < length links
    each [] is q found = cc
    each (one ∷ []) is q found = elim (or_cases _ _ found) [ inl here ↦ let same : q ≡ one = eqb-true _ _ here in omega arith | inr later ↦ cc ]
    each (one ∷ next ∷ walk) is q found = elim (or_cases _ _ found) [
      | inl here ↦ let same : q ≡ one = eqb-true _ _ here in omega (arith, is.0)
      | inr later ↦ each (next ∷ walk) is.2 q later
    ]

-- the order of an acyclic network has all its links
pub length-order_of : (links : List Link) → IsAcyclic links → length (order_of links) ≡ length links
length-order_of links acyclic = elim (order_end links (length links) []) [
  | inl stuck ↦ whole_from_stuck links (order_of links) (IsPlaced-order_of links) acyclic stuck
  | inr whole ↦ omega (arith, whole)
]

pub IsDistinct-order_of : (links : List Link) → IsDistinct nat_eq (order_of links)
IsDistinct-order_of links = (IsPlaced-order_of links).distinct

-- and each after every link into its tail
pub order_of-after : (links : List Link) (place l : ℕ) → place < length (order_of links) → l < length links → head_of links l ≡ tail_of links (slice_index (order_of links) place)
    → is_among (take place (order_of links)) l ≡ true
order_of-after links place l inside within leads =
    reached_at links (take place (order_of links)) (tail_of links (slice_index (order_of links) place)) ((IsPlaced-order_of links).after place inside) l within leads

-- the order has numbers of links alone
pub order_below : (links : List Link) → All (λ link. link < length links) (order_of links)
order_below links k d within =
    let link = get_or (order_of links) k d in
    (IsPlaced-order_of links).below link (list_any_at (λ one. one == link) (order_of links) k d within (eq-eqb link link refl))
