-- The paths of another flow to the same sink are used, each from its last link back to its first.
use Rattle.std.specs.Prelude.{◌≡◌, ◌≢◌, ◌<◌, ◌≤◌, ◌+◌, ◌-◌, ℕ, zero, suc, Bool, true, false, cond, nat_eq, Some, List, [], ◌∷◌, ◌++◌, length, slice_get, slice_index, slice_set}
use Rattle.std.specs.List.{concat, list_any}
use Rattle.std.specs.Option.{option_map_or}
use Rattle.std.proofs.Common.{refl, sym, ◌∙◌, ap, subst, get_or, arith}
use Rattle.std.proofs.lemmas.Bool.{and_from, and_parts, both_ways, eqb-false, false_from_ne_true, not-true, not_from_false, or_left}
use Rattle.std.proofs.lemmas.List.{append-nil, length-set}
use Rattle.std.proofs.lemmas.List.Elements.{All-cons, All-nil}
use Rattle.std.proofs.lemmas.List.Folds.{list_any-append}
use Rattle.std.proofs.lemmas.Map.Keys.{apart_from_distinct}
use Rattle.std.proofs.lemmas.Option.{get_or_from_slice_get, slice_get-get_or, slice_get_past, slice_get_within}
use Rattle.item_list.proofs.Tests.{passes_at}
use Rattle.net_model.proofs.ListLaws.{IsDistinct-from_are_distinct}
use Rattle.net_model.proofs.WalkLaws.{IsWalk-below}
use Rattle.net_model.specs.Flows.{FlowNetwork, IsFlow, IsPath, flow_network}
use Rattle.net_model.specs.Lists.{are_distinct}
use Rattle.net_model.specs.Walks.{IsWalk, head_of, tail_of}
use Rattle.net_model.specs.declared.Demand.{Demand}
use Rattle.net_model.specs.declared.net.Net.{Net}
use Rattle.unit_flow.specs.Begun.{IsFlowToSink, is_open, is_open_path}
use Rattle.unit_flow.specs.Conservation.{IsConserved, IsConservedFrom}
use Rattle.unit_flow.proofs.ConservationLaws.{IsConserved-from_source, IsConservedFrom-used, IsFlowNetwork-flow_network, is_free-set_other}
use Rattle.unit_flow.proofs.PassageLaws.{free_alone}
use Rattle.unit_flow.specs.Residual.{AreEntered, ResidualNetwork, is_free}
use Rattle.unit_flow.specs.FlowOf.{HasValue, IsAugmented, turned}
use Rattle.unit_flow.specs.declared.residual.LinkState.{LinkState}
use Rattle.unit_flow.specs.declared.residual.LinkState.TheVariants.{Free, Used}

-- no paths are a flow to the sink
pub IsFlowToSink-none : (net : Net) (demand : Demand) (paths : List (List ℕ)) → paths ≡ [] → IsFlowToSink net demand paths
IsFlowToSink-none net demand paths none =
    subst (IsFlowToSink net demand) (sym none) (demand.pattern, record { each = All-nil (IsPath (flow_network net demand)); disjoint = refl })

-- where no number stands twice in two lists, none does in either
are_distinct-parts : (xs ys : List ℕ) → are_distinct nat_eq (xs ++ ys) ≡ true → (are_distinct nat_eq xs ≡ true) × (are_distinct nat_eq ys ≡ true)
are_distinct-parts [] ys distinct = (refl, distinct)
are_distinct-parts (x ∷ xs) ys distinct =
    let parts = and_parts _ _ distinct in
    let rest = are_distinct-parts xs ys parts.1 in
    let apart : list_any (nat_eq x) (xs ++ ys) ≡ false = not-true _ parts.0 in
    let fresh : list_any (nat_eq x) xs ≡ false = false_from_ne_true _ (λ found. both_ways _ apart (list_any-append (nat_eq x) xs ys ∙ or_left _ _ found)) in
    (and_from _ _ (not_from_false _ fresh) rest.0, rest.1)

-- each path of a flow to the sink is one alone
pub IsFlowToSink-one : (net : Net) (demand wanted : Demand) (paths items : List (List ℕ)) (place : ℕ) (path : List ℕ) → wanted ≡ demand → items ≡ paths → place < length items → path ≡ get_or items place path
    → IsFlowToSink net demand paths → IsFlowToSink net wanted (path ∷ [])
IsFlowToSink-one net demand wanted paths items place path same are within is begun =
    let network = flow_network net (record { sink = demand.sink; pattern = begun.0 }) in
    let flow : IsFlow network items = subst (IsFlow network) (sym are) begun.1 in
    let one_is : IsPath network path = subst (IsPath network) (sym is) (flow.each place path within) in
    let Distinct : List ℕ → Type 0 = λ some. are_distinct nat_eq some ≡ true in
    let Wanted : Demand → Type 0 = λ one. IsFlowToSink net one (path ∷ []) in
    subst Wanted (sym same) (
      begun.0,
      record {
        each = All-cons (IsPath network) path [] one_is (All-nil (IsPath network));
        disjoint = subst Distinct (sym (append-nil path)) (subst Distinct (sym is) (alone items place path within flow.disjoint));
      },
    )
  where
    alone : (paths : List (List ℕ)) (place : ℕ) (d : List ℕ) → place < length paths → are_distinct nat_eq (concat paths) ≡ true → are_distinct nat_eq (get_or paths place d) ≡ true
    alone [] place d within distinct = absurd (omega arith)
    alone (one ∷ paths) zero d within distinct = (are_distinct-parts one (concat paths) distinct).0
    alone (one ∷ paths) (suc place) d within distinct = alone paths place d (omega arith) (are_distinct-parts one (concat paths) distinct).1

-- and it is a walk
pub IsFlowToSink-walk : (net : Net) (demand : Demand) (path : List ℕ) → IsFlowToSink net demand (path ∷ []) → IsWalk net.links path
IsFlowToSink-walk net demand path begun = (begun.1.each 0 path (omega arith)).walk

-- the node from which a path goes on at a place: the sink behind its last link
abbrev pub goes_on_at : FlowNetwork → List ℕ → ℕ → ℕ
goes_on_at network path place = option_map_or (tail_of network.links) (slice_get path place) network.sink

-- a link of a walk to the sink leads there
goes_on : (network : FlowNetwork) (path : List ℕ) (place : ℕ) → IsWalk network.links path → head_of network.links (slice_index path (length path - 1)) ≡ network.sink → place < length path
    → head_of network.links (slice_index path place) ≡ goes_on_at network path (suc place)
goes_on network [] place walk end within = absurd (omega arith)
goes_on network (link ∷ []) zero walk end within = end
goes_on network (link ∷ []) (suc place) walk end within = absurd (omega arith)
goes_on network (link ∷ next ∷ path) zero walk end within = sym walk.1
goes_on network (link ∷ next ∷ path) (suc place) walk end within =
    let shorter : length (link ∷ next ∷ path) - 1 ≡ suc (length (next ∷ path) - 1) = omega arith in
    let End : ℕ → Type 0 = λ last. head_of network.links (slice_index (link ∷ next ∷ path) last) ≡ network.sink in
    goes_on network (next ∷ path) place walk.2 (subst End shorter end) (omega arith)

-- the links of a path from a place on are used, and those before are free: the used links are a flow with a unit more from there on
pub record IsUsedFrom (network : FlowNetwork) (old states : List LinkState) (path : List ℕ) (place : ℕ) : Type 0 where
  pub each_link : length states ≡ length network.links
  pub within : place ≤ length path
  pub free : (k : ℕ) → k < place → is_free states (slice_index path k) ≡ true
  pub conserved : (value : ℕ) → IsConserved network old value → IsConservedFrom network states value (goes_on_at network path place)

module _ (net : Net) (demand : Demand) (old : List LinkState) (path : List ℕ) (begun : IsFlowToSink net demand (path ∷ [])) (opens : is_open_path (flow_network net demand) old path ≡ true) where
  abbrev network : FlowNetwork
  network = flow_network net demand

  path_is : IsPath (flow_network net (record { sink = demand.sink; pattern = begun.0 })) path
  path_is = begun.1.each 0 path (omega arith)

  -- each link is one of the network's
  path_within : (place : ℕ) → place < length path → slice_index path place < length net.links
  path_within place within = IsWalk-below net.links path path_is.walk place 0 within

  -- before the first none is used
  pub used_none : length old ≡ length net.links → IsUsedFrom network old old path (length path)
  used_none whole = record {
    each_link = whole;
    within = omega arith;
    free = λ k before. (and_parts _ _ (and_parts _ _ (passes_at (is_open network old) path k 0 opens before)).0).0;
    conserved = λ value conserved.
        let end : goes_on_at network path (length path) ≡ network.sink = ap (λ at. option_map_or (tail_of net.links) at network.sink) (slice_get_past path (length path) (omega arith)) in
        let From : ℕ → Type 0 = λ node. IsConservedFrom network old value node in
        subst From (sym end) conserved;
  }

  -- a link that stands at a place is one of the network's
  pub link_within : (place link : ℕ) → slice_get path place ≡ Some link → link < length net.links
  link_within place link found =
      let at : slice_index path place ≡ link = get_or_from_slice_get path place link 0 found in
      omega (arith, path_within place (slice_get_within path place link found))

  -- an open link neither leads into the source nor leaves the sink
  open_ends : (link : ℕ) → is_open network old link ≡ true → (head_of net.links link ≢ net.source) × (tail_of net.links link ≢ network.sink)
  open_ends link is =
      let parts = and_parts _ _ is in
      (eqb-false _ _ (not-true _ (and_parts _ _ parts.0).1), eqb-false _ _ (not-true _ parts.1))

  -- one link more, before the others
  pub used_next : (states new : List LinkState) (later place link : ℕ) → later ≡ suc place → slice_get path place ≡ Some link → IsUsedFrom network old states path later → new ≡ turned states link → IsUsedFrom network old new path place
  used_next states new later place link behind found is_later new_is =
      let Is_from : ℕ → Type 0 = λ some. IsUsedFrom network old states path some in
      let is : IsUsedFrom network old states path (suc place) = subst Is_from behind is_later in
      let inside : place < length path = slice_get_within path place link found in
      let at : slice_index path place ≡ link = get_or_from_slice_get path place link 0 found in
      let free : is_free states link ≡ true = ap (is_free states) (sym at) ∙ is.free place (omega arith) in
      let ends = open_ends link (ap (is_open network old) (sym at) ∙ passes_at (is_open network old) path place 0 opens inside) in
      let from : tail_of net.links link ≡ goes_on_at network path place = ap (λ at. option_map_or (tail_of net.links) at network.sink) (sym found) in
      let to : goes_on_at network path (suc place) ≡ head_of net.links link = sym (goes_on network path place path_is.walk path_is.end inside) ∙ ap (head_of net.links) at in
      let used : new ≡ slice_set states link Used = new_is ∙ ap (λ b. slice_set states link (cond b Free Used)) (free_alone states link free).0 in
      let Is : List LinkState → Type 0 = λ some. IsUsedFrom network old some path place in
      subst Is (sym used) (record {
        each_link = length-set states link Used ∙ is.each_link;
        within = omega arith;
        free = λ k before. is_free-set_other states link (slice_index path k) Used (λ same. others k before (same ∙ sym at)) ∙ is.free k (omega arith);
        conserved = λ value conserved.
            let From : ℕ → Type 0 = λ node. IsConservedFrom network states value node in
            let Used_at : ℕ → Type 0 = λ node. IsConservedFrom network (slice_set states link Used) value node in
            subst Used_at from (IsConservedFrom-used network states value link (subst From to (is.conserved value conserved)) (link_within place link found) free ends.0 ends.1);
      })
    where
      -- no link stands twice
      others : (k : ℕ) → k < place → slice_index path k ≢ slice_index path place
      others k before =
          let Distinct : List ℕ → Type 0 = λ some. are_distinct nat_eq some ≡ true in
          let distinct = IsDistinct-from_are_distinct nat_eq path (subst Distinct (append-nil path) begun.1.disjoint) in
          eqb-false _ _ (apart_from_distinct nat_eq path k place 0 distinct before (slice_get_within path place link found))

  -- from the first on they are a flow of one unit more
  pub used_all : (states : List LinkState) (value : ℕ) → demand.sink < length net.sinks → IsUsedFrom network old states path 0 → IsConserved network old value → IsConserved network states (value + 1)
  used_all states value sink is conserved =
      let first : goes_on_at network path 0 ≡ net.source = ap (λ at. option_map_or (tail_of net.links) at network.sink) (slice_get-get_or path 0 0 path_is.some) ∙ path_is.start in
      let From : ℕ → Type 0 = λ node. IsConservedFrom network states value node in
      IsConserved-from_source network states value (IsFlowNetwork-flow_network net demand sink) (subst From first (is.conserved value conserved))

-- the used links are a flow of so many units, and the nodes that they lead into are marked
pub record IsBegun (net : Net) (demand : Demand) (residual : ResidualNetwork) (entered : List Bool) (value : ℕ) : Type 0 where
  pub kept : residual.demand ≡ demand
  pub conserved : HasValue net residual value
  pub marked : AreEntered net.links (length net.nodes) residual.states entered

-- one path more
pub begun_more : (net : Net) (demand : Demand) (residual after : ResidualNetwork) (entered marks : List Bool) (value : ℕ) → IsBegun net demand residual entered value → after.demand ≡ residual.demand
    → IsAugmented net residual after.states → AreEntered net.links (length net.nodes) after.states marks → IsBegun net demand after marks (value + 1)
begun_more net demand residual after entered marks value is same more marked =
    let Conserved : Demand → Type 0 = λ wanted. IsConserved (flow_network net wanted) after.states (value + 1) in
    record { kept = same ∙ is.kept; conserved = subst Conserved (sym same) (more value is.conserved); marked = marked }
