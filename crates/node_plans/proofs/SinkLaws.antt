-- The places of nodes among the sinks, as the sinks are gone over.
use Rattle.std.specs.Prelude.{◌≡◌, ◌≢◌, ℕ, ◌+◌, ◌<◌, ◌≤◌, ◌==◌, ◌^◌, Bool, cond, nat_eq, nat_lt, Option, Some, None, List, [], ◌∷◌, ◌++◌, length, position, slice_index_or, slice_set, take}
use Rattle.std.specs.List.{position_or_len}
use Rattle.std.proofs.Common.{refl, sym, ◌∙◌, ap, subst, arith, get_or, inl, inr}
use Rattle.std.proofs.lemmas.Bool.{and_parts, both_ways, cases_eq, cases_lt, eq-eqb, le-ltb, lt-ltb, ltb-true, ne_eqb}
use Rattle.std.proofs.lemmas.List.{get_or-set_other, get_or-set_same, get_or-take, length-append, length-set, length-take, take_more}
use Rattle.std.proofs.lemmas.List.Folds.{position_or_len_push}
use Rattle.std.proofs.lemmas.List.Sums.{position_or_len_is, prefix_len-le-length}
use Rattle.std.proofs.lemmas.Map.Keys.{apart_from_distinct}
use Rattle.failure_patterns.proofs.DemandLaws.{few_sinks}
use Rattle.item_list.proofs.Tests.{passes_at}
use Rattle.net_model.proofs.ListLaws.{IsDistinct-from_are_distinct}
use Rattle.net_model.specs.Network.{is_sink_among}
use Rattle.node_program.specs.declared.code.Code.{Code}
use Rattle.node_plans.specs.SinkPlaces.{AreSinkPlaces}

-- the place of a number is the first at which it stands
position-at : (xs : List ℕ) (number place : ℕ) → place < length xs → ((k : ℕ) → k < place → get_or xs k 0 ≢ number) → get_or xs place 0 ≡ number
    → position (λ one. one == number) xs ≡ Some place
position-at xs number place within before here =
    let first : position_or_len (λ one. one == number) xs ≡ place =
    position_or_len_is (λ one. one == number) xs place 0 (omega arith) (λ k below. ne_eqb (get_or xs k 0) number (before k below)) (λ _. eq-eqb (get_or xs place 0) number here) in
    ap (λ (n : ℕ). cond (nat_lt n (length xs)) (Some n) None) first
    ∙ ap (λ (b : Bool). cond b (Some place) None) (lt-ltb place (length xs) within)

-- and another number behind changes it not
module _ (xs : List ℕ) (x number : ℕ) (apart : x ≢ number) where
  abbrev first : ℕ
  first = position_or_len (λ one. one == number) xs

  abbrev more : ℕ
  more = cond (first == length xs) (length xs + 1) first

  pushed : position_or_len (λ one. one == number) (xs ++ x ∷ []) ≡ more
  pushed =
      position_or_len_push (λ one. one == number) xs x
      ∙ ap (λ (b : Bool). cond (first == length xs) (length xs + cond b 0 1) first) (ne_eqb x number apart)

  inside : first ≤ length xs
  inside = prefix_len-le-length _ xs

  same : cond (nat_lt more (length xs + 1)) (Some more) None ≡ cond (nat_lt first (length xs)) (Some first) None
  same = elim (cases_lt first (length xs)) [
    | inl found ↦ rw (ne_eqb first (length xs) (λ is. absurd (omega (arith, is, found))), lt-ltb first (length xs + 1) (omega arith), lt-ltb first (length xs) found) refl
    | inr past ↦ rw (eq-eqb first (length xs) (omega (arith, inside)), le-ltb (length xs + 1) (length xs + 1) (omega arith), le-ltb first (length xs) past) refl
  ]

  position-other : position (λ one. one == number) (xs ++ x ∷ []) ≡ position (λ one. one == number) xs
  position-other =
      ap (λ (n : ℕ). cond (nat_lt n (length (xs ++ x ∷ []))) (Some n) None) pushed
      ∙ ap (λ (l : ℕ). cond (nat_lt more l) (Some more) None) (length-append xs (x ∷ []))
      ∙ same

module _ (code : Code) (place : ℕ) (within : place < length code.net.sinks) where
  abbrev sinks : List ℕ
  sinks = code.net.sinks

  abbrev sink : ℕ
  sink = get_or sinks place 0

  -- a sink is a node
  pub sink-below : sink < length code.net.nodes
  sink-below = ltb-true _ _ (and_parts _ _ (passes_at (is_sink_among (length code.net.nodes) code.net.source) sinks place 0 code.net.network.sink_nodes within)).0

  -- its place fits into 32 bits
  pub place-fits : place < 2 ^ 32
  place-fits = omega (arith, few_sinks code.net, code.net.network.few_nodes)

  -- it isn't among the sinks before it
  apart-before : (k : ℕ) → k < place → get_or sinks k 0 ≢ sink
  apart-before k before same =
      both_ways _
      (apart_from_distinct nat_eq sinks k place 0 (IsDistinct-from_are_distinct nat_eq sinks code.net.network.distinct_sinks) before within)
      (eq-eqb (get_or sinks k 0) sink same)

  -- the places among the sinks before it and itself
  pub AreSinkPlaces-more : (places : List (Option ℕ)) → AreSinkPlaces code (take place sinks) places
      → AreSinkPlaces code (take (place + 1) sinks) (slice_set places sink (Some place))
  AreSinkPlaces-more places are =
      subst (λ (more : List ℕ). AreSinkPlaces code more (slice_set places sink (Some place))) (sym (take_more sinks place 0 within)) (record {
        count = length-set places sink (Some place) ∙ are.count;
        each = λ node inside. elim (cases_eq sink node) [
          | inl same ↦
              let At : ℕ → Type 0 = λ node. slice_index_or (slice_set places sink (Some place)) node None ≡ position (λ one. one == node) (take place sinks ++ sink ∷ []) in
              subst At same (get_or-set_same places sink (Some place) None (omega (arith, are.count, sink-below)) ∙ sym here)
          | inr apart ↦
              get_or-set_other places sink node (Some place) None (λ same. apart (sym same)) ∙ are.each node inside
              ∙ sym (position-other (take place sinks) sink node apart)
        ];
      })
    where
      so_far : take (place + 1) sinks ≡ take place sinks ++ sink ∷ []
      so_far = take_more sinks place 0 within

      at : (k : ℕ) → k < place + 1 → get_or (take (place + 1) sinks) k 0 ≡ get_or sinks k 0
      at k below = get_or-take (place + 1) sinks k 0 below

      here : position (λ one. one == sink) (take place sinks ++ sink ∷ []) ≡ Some place
      here =
          ap (position (λ one. one == sink)) (sym so_far)
          ∙ position-at (take (place + 1) sinks) sink place (omega (arith, length-take (place + 1) sinks))
          (λ k before same. apart-before k before (sym (at k (omega arith)) ∙ same)) (at place (omega arith))
