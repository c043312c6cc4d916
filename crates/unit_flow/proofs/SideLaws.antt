-- The flow of the used links across a side, and what that says of the links that cross it.
use Rattle.std.specs.Prelude.{◌≡◌, ◌≢◌, ◌<◌, ◌≤◌, ◌+◌, ℕ, Bool, true, false, ◌&&◌, ◌==◌, cond, List, length, count_by, sum_by}
use Rattle.std.specs.List.{range_with_len}
use Rattle.std.proofs.Common.{refl, sym, ◌∙◌, ap, subst, arith, inl, inr}
use Rattle.std.proofs.lemmas.Bool.{and_from, and_parts, both_ways, cond-false, cond-true, eqb-true, eqb-false, ne_eqb, not-true, not_from_false, true_from_ne_false, false_from_ne_true}
use Rattle.std.proofs.lemmas.List.Sums.{length-filter}
use Rattle.item_list.proofs.Tests.{count_by-none}
use Rattle.net_model.proofs.FlowLaws.{IsGreatestFlow-from_crossing, IsLeastCrossed-from_flow}
use Rattle.net_model.specs.Flows.{FlowNetwork, IsGreatestFlow, IsLeastCrossed, IsLeastSide, IsSide, crossing, is_on, leaves}
use Rattle.net_model.specs.Lists.{is_among}
use Rattle.net_model.specs.Walks.{head_of, tail_of}
use Rattle.unit_flow.specs.Conservation.{IsConserved, IsFlowNetwork, used_from, used_into}
use Rattle.unit_flow.proofs.CountLaws.{All-range, All-range_at, IsDistinct-range, count_by-implied, count_by-keys_on, count_by-same, count_by-split, is_among-range, none-count_by, same-count_by, sum_by-add, sum_by-same, sum_by-single}
use Rattle.unit_flow.proofs.PassageLaws.{free_alone, free_or_used, is_used-within, passage-free, passage-used, passage_cases, used_alone}
use Rattle.unit_flow.specs.Reaching.{IsClosed, IsReached}
use Rattle.unit_flow.specs.Residual.{AreStates, is_used}
use Rattle.unit_flow.specs.Sides.{leads_in, leads_out, used_in, used_out}
use Rattle.unit_flow.specs.Decomposition.{paths_of}
use Rattle.unit_flow.proofs.DecompositionLaws.{IsFlow-paths_of, length-paths_of}
use Rattle.unit_flow.specs.declared.residual.LinkState.{LinkState}

-- used links that are a flow of so many units, and a side
module _ (network : FlowNetwork) (states : List LinkState) (value : ℕ) (side : List Bool) (is : IsFlowNetwork network) (conserved : IsConserved network states value) (is_side : IsSide network side) where
  -- what leaves a node on the side is what leads into it and, at the source, the units that it gives
  at_node : (node : ℕ) → cond (is_on side node) (used_from network.links states node) 0 ≡ cond (is_on side node) (used_into network.links states node) 0 + cond (node == network.source) value 0
  at_node node = at (is_on side node) (node == network.source) refl refl
    where
      at : (on here : Bool) → is_on side node ≡ on → (node == network.source) ≡ here
          → cond on (used_from network.links states node) 0 ≡ cond on (used_into network.links states node) 0 + cond here value 0
      at true true on here =
          let same : node ≡ network.source = eqb-true _ _ here in
          let from = subst (λ n. used_from network.links states n ≡ value + cond (network.sink == network.source) 1 0) (sym same) conserved.from_source in
          let into : used_into network.links states node ≡ 0 = subst (λ n. used_into network.links states n ≡ 0) (sym same) conserved.into_source in
          let none = cond-false {A = ℕ} (network.sink == network.source) 1 0 (ne_eqb _ _ (λ alike. is.apart (sym alike))) in
          omega arith
      at true false on here =
          let sink : node ≢ network.sink = λ same. both_ways (is_on side node) (ap (is_on side) same ∙ is_side.sink) on in
          let none = cond-false {A = ℕ} (network.sink == node) 1 0 (ne_eqb _ _ (λ alike. sink (sym alike))) in
          let balance = conserved.balance node (eqb-false _ _ here) sink in
          omega arith
      at false true on here = absurd (both_ways (is_on side node) on (ap (is_on side) (eqb-true _ _ here) ∙ is_side.source))
      at false false on here = omega arith

  -- the used links whose end of one kind is on the side, counted by their ends
  by_ends : (end : ℕ → ℕ) → ((link : ℕ) → link < length network.links → end link < network.nodes)
      → count_by (λ link. is_used states link && is_on side (end link)) (range_with_len 0 (length network.links))
      ≡ sum_by (λ node. cond (is_on side node) (count_by (λ link. is_used states link && (end link == node)) (range_with_len 0 (length network.links))) 0) (range_with_len 0 network.nodes)
  by_ends end inside =
      let nodes = range_with_len 0 network.nodes in
      count_by-keys_on (is_used states) (is_on side) end (range_with_len 0 (length network.links)) nodes (IsDistinct-range network.nodes)
      (All-range (λ link. is_used states link ≡ true → is_among nodes (end link) ≡ true) (length network.links) (λ link within used. is_among-range network.nodes (end link) (inside link within)))

  -- the used links that lead off a side are as many as those that lead onto it and the units from the source
  pub conserved_across : used_out network.links states side ≡ value + used_in network.links states side
  conserved_across =
      let links = range_with_len 0 (length network.links) in
      let nodes = range_with_len 0 network.nodes in
      let from : ℕ → Bool = λ link. is_used states link && is_on side (tail_of network.links link) in
      let into : ℕ → Bool = λ link. is_used states link && is_on side (head_of network.links link) in
      let each = sum_by-same (λ node. cond (is_on side node) (used_from network.links states node) 0)
      (λ node. cond (is_on side node) (used_into network.links states node) 0 + cond (node == network.source) value 0) nodes at_node in
      let parts = sum_by-add (λ node. cond (is_on side node) (used_into network.links states node) 0) (λ node. cond (node == network.source) value 0) nodes in
      let given : sum_by (λ node. cond (node == network.source) value 0) nodes ≡ value =
      sum_by-single nodes network.source value (IsDistinct-range network.nodes) ∙ cond-true (is_among nodes network.source) value 0 (is_among-range network.nodes network.source is.source_node) in
      let inner = sum_by-same (λ link. cond {A = ℕ} (from link && is_on side (head_of network.links link)) 1 0) (λ link. cond {A = ℕ} (into link && is_on side (tail_of network.links link)) 1 0) links
      (λ link. ap (λ (b : Bool). cond {A = ℕ} b 1 0) (turned (is_used states link) (is_on side (tail_of network.links link)) (is_on side (head_of network.links link)))) in
      omega (
        arith,
        each,
        parts,
        given,
        inner,
        by_ends (tail_of network.links) is.tails,
        by_ends (head_of network.links) is.heads,
        count_by-split from (λ link. is_on side (head_of network.links link)) links,
        count_by-split into (λ link. is_on side (tail_of network.links link)) links,
      )
    where
      turned : (a b c : Bool) → ((a && b) && c) ≡ ((a && c) && b)
      turned false b c = refl
      turned true true true = refl
      turned true true false = refl
      turned true false true = refl
      turned true false false = refl

-- a used link that leads off a side is one of its crossing
pub leads_out-leaves : (network : FlowNetwork) (states : List LinkState) (side : List Bool) → AreStates network states
    → (link : ℕ) → leads_out network.links states side link ≡ true → leaves network side link ≡ true
leads_out-leaves network states side are link out =
    let parts = and_parts _ _ out in
    let used = and_parts _ _ parts.0 in
    let within = is_used-within states link used.0 in
    let working : is_among network.failed link ≡ false = sym (are.failed link (omega (arith, are.each_link))) ∙ (used_alone states link used.0).1 in
    and_from _ _ (and_from _ _ (not_from_false _ working) used.1) parts.1

-- the used links that lead off a side are at most as many as its crossing has
pub used_out-le-crossing : (network : FlowNetwork) (states : List LinkState) (side : List Bool) → AreStates network states → used_out network.links states side ≤ length (crossing network side)
used_out-le-crossing network states side are =
    let links = range_with_len 0 (length network.links) in
    omega (arith, length-filter (leaves network side) links, count_by-implied (leads_out network.links states side) (leaves network side) links (leads_out-leaves network states side are))

-- and where they are as many, every link of the crossing is used
pub is_used-crossing : (network : FlowNetwork) (states : List LinkState) (side : List Bool) → AreStates network states → used_out network.links states side ≡ length (crossing network side)
    → (link : ℕ) → link < length network.links → leaves network side link ≡ true → is_used states link ≡ true
is_used-crossing network states side are whole link within crosses =
    let links = range_with_len 0 (length network.links) in
    let all = same-count_by (leads_out network.links states side) (leaves network side) links (leads_out-leaves network states side are) (whole ∙ length-filter (leaves network side) links) in
    let out = All-range_at (λ n. leaves network side n ≡ true → leads_out network.links states side n ≡ true) (length network.links) all link within crosses in
    (and_parts _ _ (and_parts _ _ out).0).0

-- no used link leads onto a closed side, and every link of its crossing is used
pub crossing-closed : (network : FlowNetwork) (states : List LinkState) (side : List Bool) → AreStates network states → IsClosed network.links states side
    → (used_in network.links states side ≡ 0) × (used_out network.links states side ≡ length (crossing network side))
crossing-closed network states side are closed =
    let links = range_with_len 0 (length network.links) in (
      count_by-none (leads_in network.links states side) links (All-range (λ link. leads_in network.links states side link ≡ false) (length network.links) none_in),
      count_by-same (leads_out network.links states side) (leaves network side) links (leads_out-leaves network states side are)
          (All-range (λ link. leaves network side link ≡ true → leads_out network.links states side link ≡ true) (length network.links) all_out)
          ∙ sym (length-filter (leaves network side) links),
    )
  where
    none_in : (link : ℕ) → link < length network.links → leads_in network.links states side link ≡ false
    none_in link within = false_from_ne_true _ (λ leads.
        let parts = and_parts _ _ leads in
        let used = and_parts _ _ parts.0 in
        both_ways _ (not-true _ parts.1) (closed link (head_of network.links link) (tail_of network.links link) within used.1 (passage-used network.links states link used.0)))

    all_out : (link : ℕ) → link < length network.links → leaves network side link ≡ true → leads_out network.links states side link ≡ true
    all_out link within crosses =
        let parts = and_parts _ _ crosses in
        let working = and_parts _ _ parts.0 in
        elim (free_or_used states link (omega (arith, are.each_link)) (are.failed link within ∙ not-true _ working.0)) [
          | inl free ↦ absurd (both_ways _ (not-true _ parts.1) (closed link (tail_of network.links link) (head_of network.links link) within working.1 (passage-free network.links states link free)))
          | inr used ↦ and_from _ _ (and_from _ _ used working.1) parts.1
        ]

-- as many links as there are units cross a closed side
pub length-crossing_closed : (network : FlowNetwork) (states : List LinkState) (value : ℕ) (side : List Bool) → IsFlowNetwork network → IsConserved network states value → IsSide network side
    → IsClosed network.links states side → length (crossing network side) ≡ value
length-crossing_closed network states value side is conserved is_side closed =
    let parts = crossing-closed network states side conserved.are_states closed in
    omega (arith, conserved_across network states value side is conserved is_side, parts.0, parts.1)

-- a side that as many links cross as there are units is closed
pub IsClosed-least : (network : FlowNetwork) (states : List LinkState) (value : ℕ) (side : List Bool) → IsFlowNetwork network → IsConserved network states value → IsSide network side
    → length (crossing network side) ≡ value → IsClosed network.links states side
IsClosed-least network states value side is conserved is_side few link node next within on leads =
    let across = conserved_across network states value side is conserved is_side in
    let most = used_out-le-crossing network states side conserved.are_states in
    let none : used_in network.links states side ≡ 0 = omega arith in
    let whole : used_out network.links states side ≡ length (crossing network side) = omega arith in
    true_from_ne_false (is_on side next) (λ off. elim (passage_cases network.links states link node next leads) [
      | inl forward ↦
          let alone = free_alone states link forward.0 in
          let working : is_among network.failed link ≡ false = sym (conserved.are_states.failed link within) ∙ alone.1 in
          let crosses : leaves network side link ≡ true = and_from _ _ (and_from _ _ (not_from_false _ working) (ap (is_on side) (sym forward.1) ∙ on)) (not_from_false _ (ap (is_on side) (sym forward.2) ∙ off)) in
          both_ways _ alone.0 (is_used-crossing network states side conserved.are_states whole link within crosses)
      | inr back ↦
          let onto : leads_in network.links states side link ≡ true = and_from _ _ (and_from _ _ back.0 (ap (is_on side) (sym back.1) ∙ on)) (not_from_false _ (ap (is_on side) (sym back.2) ∙ off)) in
          both_ways _ (All-range_at (λ n. leads_in network.links states side n ≡ false) (length network.links) (none-count_by (leads_in network.links states side) (range_with_len 0 (length network.links)) none) link within) onto
    ])

-- what the source reaches without the sink is a side
pub IsSide-reached : (network : FlowNetwork) (states : List LinkState) (side : List Bool) → IsReached network states side → is_on side network.sink ≡ false → IsSide network side
IsSide-reached network states side reached off = record { whole = reached.whole; source = reached.source; sink = off }

-- as many links as there are units cross it
pub length-crossing_reached : (network : FlowNetwork) (states : List LinkState) (value : ℕ) (side : List Bool) → IsFlowNetwork network → IsConserved network states value → IsReached network states side
    → is_on side network.sink ≡ false → length (crossing network side) ≡ value
length-crossing_reached network states value side is conserved reached off =
    length-crossing_closed network states value side is conserved (IsSide-reached network states side reached off) reached.closed

-- and as many as there are paths
pub length-paths_reached : (network : FlowNetwork) (states : List LinkState) (value : ℕ) (side : List Bool) → IsFlowNetwork network → IsConserved network states value → IsReached network states side
    → is_on side network.sink ≡ false → length (paths_of network value states) ≡ length (crossing network side)
length-paths_reached network states value side is conserved reached off =
    length-paths_of network value states ∙ sym (length-crossing_reached network states value side is conserved reached off)

-- which are a greatest flow
pub IsGreatestFlow-reached : (network : FlowNetwork) (states : List LinkState) (value : ℕ) (side : List Bool) → IsFlowNetwork network → IsConserved network states value → IsReached network states side
    → is_on side network.sink ≡ false → IsGreatestFlow network (paths_of network value states)
IsGreatestFlow-reached network states value side is conserved reached off =
    IsGreatestFlow-from_crossing network (paths_of network value states) side (IsFlow-paths_of network value states is conserved) (IsSide-reached network states side reached off)
    (length-paths_reached network states value side is conserved reached off)

-- it lies in every other side that is crossed by as few links as a least cut has
pub IsLeastSide-reached : (network : FlowNetwork) (states : List LinkState) (value : ℕ) (side : List Bool) → IsFlowNetwork network → IsConserved network states value → IsReached network states side
    → is_on side network.sink ≡ false → IsLeastSide network side
IsLeastSide-reached network states value side is conserved reached off =
    let few = length-crossing_reached network states value side is conserved reached off in
    let crossed : IsLeastCrossed network side =
    IsLeastCrossed-from_flow network (paths_of network value states) side (IsFlow-paths_of network value states is conserved) (IsSide-reached network states side reached off)
    (length-paths_reached network states value side is conserved reached off) in
    record {
      crossed = crossed;
      inside = λ other least node on.
          let one = crossed.least.least (crossing network other) least.least.is_cut in
          let two = least.least.least (crossing network side) crossed.least.is_cut in
          reached.least other least.is_side.source (IsClosed-least network states value other is conserved least.is_side (omega arith)) node on;
    }
