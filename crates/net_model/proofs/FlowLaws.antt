-- Laws of flows and cuts: no flow has more paths than a cut has links, and where they are as many both are best.
use Rattle.std.specs.Prelude.{◌≡◌, ◌↔◌, ℕ, zero, suc, ◌<◌, ◌≤◌, ◌-◌, Bool, true, false, nat_eq, List, [], ◌∷◌, length, slice_index, filter, All}
use Rattle.std.specs.List.{list_any, range_with_len, concat}
use Rattle.std.proofs.Common.{sym, ◌∙◌, ap, arith, inl, inr}
use Rattle.std.proofs.lemmas.Bool.{and_parts, and_from, or_left, or_right, cases_Bool, lt-ltb, ltb-true, not_from_false}
use Rattle.std.proofs.lemmas.List.{ext_get_or, length-append}
use Rattle.std.proofs.lemmas.List.Elements.{All-filter, All-head, All-tail, filter-append}
use Rattle.std.proofs.lemmas.List.FromFn.{length-range_with_len, get_or-range_with_len}
use Rattle.item_list.proofs.Tests.{length-filter-some}
use Rattle.net_model.specs.Flows.{FlowNetwork, IsFlow, IsGreatestFlow, IsCut, IsLeastCut, IsSide, IsLeastCrossed, IsLeastSide, is_on, leaves, crossing}
use Rattle.std.specs.Cmp.{both_ways as same_truth}
use Rattle.net_model.proofs.ListLaws.{are_distinct-filter, is_among-filter, is_among-range_with_len, length-le_from_is_among, is_among-from_length}
use Rattle.net_model.specs.Lists.{are_distinct, is_among}
use Rattle.net_model.specs.Walks.{IsWalk, head_of, tail_of}

-- each link of a crossing is below the number of links
pub crossing-below : (network : FlowNetwork) (side : List Bool) → All (λ link. link < length network.links) (crossing network side)
crossing-below network side =
    All-filter (leaves network side) (λ link. link < length network.links) (range_with_len 0 (length network.links)) (λ k d within.
    let inside : k < length network.links = rw length-range_with_len at within in omega (arith, get_or-range_with_len 0 (length network.links) k d inside))

-- the links of a crossing are exactly those of the network that leave the side
pub crossing-leaves : (network : FlowNetwork) (side : List Bool) (link : ℕ) → is_among (crossing network side) link ≡ true ↔ (link < length network.links) × (leaves network side link ≡ true)
crossing-leaves network side link =
    let of_range = is_among-range_with_len (length network.links) link in
    let both = is_among-filter (leaves network side) (range_with_len 0 (length network.links)) link in (
      λ among. let parts = and_parts (leaves network side link) (is_among (range_with_len 0 (length network.links)) link) (sym both ∙ among) in (ltb-true _ _ (sym of_range ∙ parts.1), parts.0),
      λ is. both ∙ and_from _ _ is.1 (of_range ∙ lt-ltb _ _ is.0),
    )

-- a walk of links that didn't fail from a node on a side to one off it has a link that leaves the side
walk_leaves : (network : FlowNetwork) (side : List Bool) (walk : List ℕ) (last : ℕ) → suc last ≡ length walk → IsWalk network.links walk → All (λ link. is_among network.failed link ≡ false) walk
    → is_on side (tail_of network.links (slice_index walk 0)) ≡ true → is_on side (head_of network.links (slice_index walk last)) ≡ false
    → list_any (is_among (crossing network side)) walk ≡ true
walk_leaves network side [] last count is working on off = absurd (omega arith)
walk_leaves network side (link ∷ []) zero count is working on off =
    or_left _ _ ((crossing-leaves network side link).1 (is, and_from _ _ (and_from _ _ (not_from_false _ (working 0 0 (omega arith))) on) (not_from_false _ off)))
walk_leaves network side (link ∷ []) (suc last) count is working on off = absurd (omega arith)
walk_leaves network side (link ∷ next ∷ walk) zero count is working on off = absurd (omega arith)
walk_leaves network side (link ∷ next ∷ walk) (suc last) count is working on off = elim (cases_Bool (is_on side (head_of network.links link))) [
  | inl stays ↦ or_right _ _ (walk_leaves network side (next ∷ walk) last (omega arith) is.2 (All-tail (λ one. is_among network.failed one ≡ false) link (next ∷ walk) working) (ap (is_on side) is.1 ∙ stays) off)
  | inr left ↦ or_left _ _ ((crossing-leaves network side link).1 (is.0, and_from _ _ (and_from _ _ (not_from_false _ (working 0 0 (omega arith))) on) (not_from_false _ left)))
]

-- the links that leave a side are a cut
pub IsCut-crossing : (network : FlowNetwork) (side : List Bool) → IsSide network side → IsCut network (crossing network side)
IsCut-crossing network side is path path_is =
    let some = path_is.some in
    walk_leaves network side path (length path - 1) (omega arith) path_is.walk path_is.working (ap (is_on side) path_is.start ∙ is.source) (ap (is_on side) path_is.end ∙ is.sink)

-- lists that each have a number that passes keep at least as many as there are lists
each_kept : (test : ℕ → Bool) (lists : List (List ℕ)) → All (λ xs. list_any test xs ≡ true) lists → length lists ≤ length (filter test (concat lists))
each_kept test [] each = omega arith
each_kept test (xs ∷ lists) each =
    let one = length-filter-some test xs (All-head (λ ys. list_any test ys ≡ true) xs lists each) in
    let rest = each_kept test lists (All-tail (λ ys. list_any test ys ≡ true) xs lists each) in
    rw filter-append (omega (arith, one, rest, length-append (filter test xs) (filter test (concat lists))))

-- the links of paths that are in a cut: at least as many as there are paths, no two the same, each in the cut
record Kept (paths : List (List ℕ)) (cut : List ℕ) : Type 0 where
  enough : length paths ≤ length (filter (is_among cut) (concat paths))
  distinct : are_distinct nat_eq (filter (is_among cut) (concat paths)) ≡ true
  within : (link : ℕ) → is_among (filter (is_among cut) (concat paths)) link ≡ true → is_among cut link ≡ true

kept : (network : FlowNetwork) (paths : List (List ℕ)) (cut : List ℕ) → IsFlow network paths → IsCut network cut → Kept paths cut
kept network paths cut flow is = record {
  enough = each_kept (is_among cut) paths (λ k d within. is _ (flow.each k d within));
  distinct = are_distinct-filter nat_eq (is_among cut) (concat paths) flow.disjoint;
  within = λ link among. (and_parts _ _ (sym (is_among-filter (is_among cut) (concat paths) link) ∙ among)).0;
}

-- a flow has at most as many paths as a cut has links
pub flow-le-cut : (network : FlowNetwork) (paths : List (List ℕ)) (cut : List ℕ) → IsFlow network paths → IsCut network cut → length paths ≤ length cut
flow-le-cut network paths cut flow is =
    let some = kept network paths cut flow is in
    omega (arith, some.enough, length-le_from_is_among (filter (is_among cut) (concat paths)) cut some.distinct some.within)

-- a flow with as many paths as links leave a side
module _ (network : FlowNetwork) (paths : List (List ℕ)) (side : List Bool) (flow : IsFlow network paths) (is : IsSide network side) (same : length paths ≡ length (crossing network side)) where
  -- each of those links is on a path
  pub saturated : (link : ℕ) → is_among (crossing network side) link ≡ true → is_among (concat paths) link ≡ true
  saturated link among =
      let cut = crossing network side in
      let some = kept network paths cut flow (IsCut-crossing network side is) in
      let found = is_among-from_length (filter (is_among cut) (concat paths)) cut some.distinct some.within (omega (arith, some.enough)) link among in
      (and_parts _ _ (sym (is_among-filter (is_among cut) (concat paths) link) ∙ found)).1

  -- the flow is a greatest one
  pub IsGreatestFlow-from_crossing : IsGreatestFlow network paths
  IsGreatestFlow-from_crossing =
      record { flow = flow; greatest = λ other other_flow. omega (arith, flow-le-cut network other (crossing network side) other_flow (IsCut-crossing network side is)) }

  -- the links are a least cut
  pub IsLeastCut-from_flow : IsLeastCut network (crossing network side)
  IsLeastCut-from_flow = record { is_cut = IsCut-crossing network side is; least = λ other other_cut. omega (arith, flow-le-cut network paths other flow other_cut) }

  -- the side is left by as few links as a least cut has
  pub IsLeastCrossed-from_flow : IsLeastCrossed network side
  IsLeastCrossed-from_flow = record { is_side = is; least = IsLeastCut-from_flow }

-- two least cuts have as many links
pub IsLeastCut-same_size : (network : FlowNetwork) (cut other : List ℕ) → IsLeastCut network cut → IsLeastCut network other → length cut ≡ length other
IsLeastCut-same_size network cut other is other_is = omega (arith, is.least other other_is.is_cut, other_is.least cut is.is_cut)

-- a network has one least side
pub IsLeastSide-unique : (network : FlowNetwork) (side other : List Bool) → IsLeastSide network side → IsLeastSide network other → side ≡ other
IsLeastSide-unique network side other one two =
    ext_get_or false side other (one.crossed.is_side.whole ∙ sym two.crossed.is_side.whole)
    (λ node within. same_truth (is_on side node) (is_on other node) (one.inside other two.crossed node) (two.inside side one.crossed node))
