-- How a search begins, goes on to a node that wasn't reached, and goes back.
use Rattle.std.specs.Prelude.{◌≡◌, ◌≢◌, ◌<◌, ◌≤◌, ◌+◌, ◌-◌, ℕ, zero, suc, Bool, true, false, nat_eq, nat_lt, List, ◌∷◌, length, take, slice_index, slice_index_or, slice_set, replicate, Option, Some, None, IfNone, IfSome, is_some}
use Rattle.std.proofs.Common.{refl, sym, ◌∙◌, ap, subst, arith, inl, inr}
use Rattle.std.proofs.lemmas.Bool.{both_ways, cases_eq, lt-ltb, ne_eqb}
use Rattle.std.proofs.lemmas.List.{length-set, length-replicate, length-take-le, get_or-set_other, get_or-set_same, get_or-take, get_or_default, get_or_read, set-get_or}
use Rattle.std.proofs.lemmas.List.Sums.{list_all-from_AllPass}
use Rattle.std.proofs.lemmas.Map.Keys.{IsDistinct-from_apart}
use Rattle.std.proofs.lemmas.Map.Steps.{length-le_from_distinct_below}
use Rattle.link_chains.specs.Wiring.{IsWiring}
use Rattle.link_chains.specs.declared.wiring.Wiring.{Wiring}
use Rattle.item_list.proofs.Tests.{below_bound}
use Rattle.net_model.specs.Flows.{FlowNetwork, is_on}
use Rattle.net_model.specs.Walks.{head_of, tail_of}
use Rattle.unit_flow.proofs.PassingSteps.{is_on-set, marked_ends-le, marked_ends-moved, marked_ends-unmarked, passed_ends-firsts, passed_ends-moved, passed_first}
use Rattle.unit_flow.specs.Conservation.{IsFlowNetwork}
use Rattle.unit_flow.specs.Residual.{passage}
use Rattle.unit_flow.specs.Searching.{ArePassed, CameByLink, EndsAt, HasPlaces, HaveLed, IsLeft, IsOnWay, IsSearching, KeepsWay, MovesAt, ends_below, last_of, link_at, looks, marked_ends, node_at, passed_ends}
use Rattle.unit_flow.specs.declared.residual.LinkState.{LinkState}
use Rattle.unit_flow.specs.declared.search.Entry.{Entry}
use Rattle.unit_flow.specs.declared.search.Search.{Search}

-- a number that is none of the first of a list, which are distinct, shows that those are fewer than the bound of all
module _ (xs : List ℕ) (n bound number : ℕ) (long : n ≤ length xs) (below : (k : ℕ) → k < n → slice_index xs k < bound) (distinct : (i j : ℕ) → i < j → j < n → slice_index xs i ≢ slice_index xs j)
    (within : number < bound) (fresh : (k : ℕ) → k < n → slice_index xs k ≢ number) where
  count : length (take n xs) ≡ n
  count = length-take-le n xs long

  at : (k d : ℕ) → k < n → slice_index_or (take n xs) k d ≡ slice_index xs k
  at k d inside = get_or-take n xs k d inside ∙ get_or_default xs k d 0 (omega arith)

  apart : (i j d : ℕ) → i < j → j < length (number ∷ take n xs) → nat_eq (slice_index_or (number ∷ take n xs) i d) (slice_index_or (number ∷ take n xs) j d) ≡ false
  apart i zero d before inside = absurd (omega arith)
  apart zero (suc j) d before inside = let old : j < n = omega (arith, count) in ne_eqb _ _ (λ same. fresh j old (sym (at j d old) ∙ sym same))
  apart (suc i) (suc j) d before inside =
      let old : j < n = omega (arith, count) in
      let older : i < n = omega arith in
      ne_eqb _ _ (λ same. distinct i j (omega arith) old (sym (at i d older) ∙ same ∙ at j d old))

  all_below : (k d : ℕ) → k < length (number ∷ take n xs) → nat_lt (slice_index_or (number ∷ take n xs) k d) bound ≡ true
  all_below zero d inside = lt-ltb _ _ within
  all_below (suc k) d inside =
      let old : k < n = omega (arith, count) in
      lt-ltb _ _ (rw (at k d old) (below k old))

  pub fewer : n < bound
  fewer =
      let all = list_all-from_AllPass (λ x. nat_lt x bound) (number ∷ take n xs) all_below in
      let few = length-le_from_distinct_below (number ∷ take n xs) bound (IsDistinct-from_apart nat_eq (number ∷ take n xs) apart) (λ q found. below_bound (number ∷ take n xs) bound q all found) in
      omega (arith, few, count)

-- a search has reached the source alone
pub record IsBegun (network : FlowNetwork) (states : List LinkState) (search : Search) : Type 0 where
  pub searching : IsSearching network states search
  pub away : is_on search.reached.items network.sink ≡ false
  pub none : (marks : List Bool) → looks network.links marks search ≡ 0

module _ (network : FlowNetwork) (states : List LinkState) (old new : Search) (flags : List Bool) (wiring : Wiring) (places : HasPlaces network.nodes old) (of : IsFlowNetwork network)
    (is : IsWiring network.links network.nodes wiring) (way_is : new.way.items ≡ slice_set old.way.items 0 network.source) (depth_is : new.depth ≡ 1) (came_is : new.came.items ≡ old.came.items)
    (flags_are : flags ≡ replicate (length old.reached.items) false) (reached_is : new.reached.items ≡ slice_set flags network.source true) (from_is : new.from.items ≡ wiring.from.firsts.items)
    (into_is : new.into.items ≡ wiring.into.firsts.items) where
  at_first : (place : ℕ) → place < new.depth → node_at new place ≡ network.source
  at_first place inside =
      let first : place ≡ 0 = omega arith in
      let room : 0 < length old.way.items = omega (arith, places.way, of.source_node) in
      ap (λ w. slice_index w place) way_is ∙ ap (λ n. slice_index (slice_set old.way.items 0 network.source) n) first ∙ get_or-set_same old.way.items 0 network.source 0 room

  flag_count : length flags ≡ network.nodes
  flag_count = ap length flags_are ∙ length-replicate (length old.reached.items) false ∙ places.reached

  at_source : is_on new.reached.items network.source ≡ true
  at_source =
      let inside : network.source < length flags = omega (arith, flag_count, of.source_node) in
      ap (λ f. is_on f network.source) reached_is ∙ get_or-set_same flags network.source true false inside

  unset : (node : ℕ) → node ≢ network.source → is_on new.reached.items node ≡ false
  unset node other =
      ap (λ f. is_on f node) reached_is ∙ get_or-set_other flags network.source node true false other ∙ ap (λ f. is_on f node) flags_are
      ∙ none (length old.reached.items) node
    where
      none : (many place : ℕ) → is_on (replicate many false) place ≡ false
      none zero place = refl
      none (suc many) zero = refl
      none (suc many) (suc place) = none many place

  source_alone : (node : ℕ) → is_on new.reached.items node ≡ true → node ≡ network.source
  source_alone node on = elim (cases_eq node network.source) [
    | inl same ↦ same
    | inr other ↦ absurd (both_ways _ (unset node other) on)
  ]

  sink_unset : is_on new.reached.items network.sink ≡ false
  sink_unset = unset network.sink (λ same. of.apart (sym same))

  none_looked : (marks : List Bool) → looks network.links marks new ≡ 0
  none_looked marks =
      let Passed_none : (ℕ → ℕ) → List ℕ → Type 0 = λ end cursors. passed_ends end (length network.links) (slice_index cursors) ≡ 0 in
      let from : Passed_none (tail_of network.links) new.from.items = subst (Passed_none (tail_of network.links)) (sym from_is) (passed_ends-firsts _ _ _ _ is.from_firsts of.tails) in
      let into : Passed_none (head_of network.links) new.into.items = subst (Passed_none (head_of network.links)) (sym into_is) (passed_ends-firsts _ _ _ _ is.into_firsts of.heads) in
      omega (arith, from, into, marked_ends-le (head_of network.links) (length network.links) marks (slice_index new.into.items))

  searching : IsSearching network states new
  searching = record {
    way = record {
      places = record {
        way = ap length way_is ∙ length-set old.way.items 0 network.source ∙ places.way;
        came = ap length came_is ∙ places.came;
        reached = ap length reached_is ∙ length-set flags network.source true ∙ flag_count;
        from = ap length from_is ∙ is.from_firsts.each_node;
        into = ap length into_is ∙ is.into_firsts.each_node;
      };
      within = omega (arith, depth_is, of.source_node);
      first = at_first 0;
      nodes = λ place inside. rw (at_first place inside) of.source_node;
      distinct = λ i j before inside. absurd (omega arith);
      came = λ place some inside. absurd (omega arith);
    };
    source = at_source;
    on_way = λ place inside. ap (is_on new.reached.items) (at_first place inside) ∙ at_source;
    from =
        let Passed : List ℕ → Type 0 = λ cursors. ArePassed network.links states (tail_of network.links) network.nodes (slice_index cursors) new.reached.items in
        subst Passed (sym from_is) (passed_first network.links states (tail_of network.links) network.nodes wiring.from.firsts.items new.reached.items is.from_firsts of.tails);
    into =
        let Passed : List ℕ → Type 0 = λ cursors. ArePassed network.links states (head_of network.links) network.nodes (slice_index cursors) new.reached.items in
        subst Passed (sym into_is) (passed_first network.links states (head_of network.links) network.nodes wiring.into.firsts.items new.reached.items is.into_firsts of.heads);
    left = λ node on. inl (0, omega arith, at_first 0 (omega arith) ∙ sym (source_alone node on));
    least = λ side source closed node on. ap (is_on side) (source_alone node on) ∙ source;
  }

  pub begun : IsBegun network states new
  begun = record { searching = searching; away = sink_unset; none = none_looked }

-- the last node of the way is one
pub last_below : (network : FlowNetwork) (states : List LinkState) (search : Search) (node : ℕ) → IsSearching network states search → 0 < search.depth
    → node ≡ slice_index_or search.way.items (search.depth - 1) node → node < network.nodes
last_below network states search node is some read =
    let inside : search.depth - 1 < length search.way.items = omega (arith, is.way.within, is.way.places.way) in
    rw (get_or_read search.way.items (search.depth - 1) node inside read 0) (is.way.nodes (search.depth - 1) (omega arith))

-- so many steps were counted for the links at a node that were passed
pub counts_moved : (end : ℕ → ℕ) (count node first next : ℕ) (old new : List ℕ) (before after : ℕ) → node < length old → new ≡ slice_set old node next → first ≡ slice_index old node
    → after + ends_below end count node first ≡ before + ends_below end count node next → after + passed_ends end count (slice_index old) ≡ before + passed_ends end count (slice_index new)
counts_moved end count node first next old new before after inside new_is first_is counted =
    let here : slice_index new node ≡ next = ap (λ xs. slice_index xs node) new_is ∙ get_or-set_same old node next 0 inside in
    let moved = passed_ends-moved end count node (slice_index old) (slice_index new) (λ n apart. ap (λ xs. slice_index xs n) new_is ∙ get_or-set_other old node n next 0 apart) in
    let before_is = ap (ends_below end count node) first_is in
    let after_is = ap (ends_below end count node) here in
    omega (arith, moved, before_is, after_is, counted)

-- and for those at a marked one
pub counts_marked : (end : ℕ → ℕ) (count node first next : ℕ) (marks : List Bool) (old new : List ℕ) (before after : ℕ) → is_on marks node ≡ true → node < length old → new ≡ slice_set old node next
    → first ≡ slice_index old node → after + ends_below end count node first ≡ before + ends_below end count node next
    → after + marked_ends end count marks (slice_index old) ≡ before + marked_ends end count marks (slice_index new)
counts_marked end count node first next marks old new before after marked inside new_is first_is counted =
    let here : slice_index new node ≡ next = ap (λ xs. slice_index xs node) new_is ∙ get_or-set_same old node next 0 inside in
    let moved = marked_ends-moved end count node marks (slice_index old) (slice_index new) marked (λ n apart. ap (λ xs. slice_index xs n) new_is ∙ get_or-set_other old node n next 0 apart) in
    let before_is = ap (ends_below end count node) first_is in
    let after_is = ap (ends_below end count node) here in
    omega (arith, moved, before_is, after_is, counted)

-- none is counted for those at another
pub counts_unmarked : (end : ℕ → ℕ) (count node next : ℕ) (marks : List Bool) (old new : List ℕ) → is_on marks node ≡ false → new ≡ slice_set old node next
    → marked_ends end count marks (slice_index new) ≡ marked_ends end count marks (slice_index old)
counts_unmarked end count node next marks old new unmarked new_is =
    marked_ends-unmarked end count node marks (slice_index old) (slice_index new) unmarked (λ n apart. ap (λ xs. slice_index xs n) new_is ∙ get_or-set_other old node n next 0 apart)

-- a step that is counted later is counted
pub counted_later : (entry : Option Entry) (before between after : ℕ) → before ≤ between → IfSome entry (λ one. between < after) → IfSome entry (λ one. before < after)
counted_later None before between after early some = some
counted_later (Some one) before between after early some = omega arith

-- where there is no entry, there is none
pub nothing : (entry : Option Entry) → is_some entry ≡ false → entry ≡ None
nothing None none = refl
nothing (Some entry) none = cc

-- where there is one, nothing is said of none
pub not_none : (P : Type 0) (entry : Option Entry) → is_some entry ≡ true → IfNone entry P
not_none P None some = cc
not_none P (Some entry) some = tt

-- what holds where there is no entry
pub where_none : {P : Type 0} (entry : Option Entry) → entry ≡ None → IfNone entry P → P
where_none None none holds = holds
where_none (Some entry) none holds = cc

-- where there is no entry, one thing follows from another
pub none_weaker : {P Q : Type 0} (entry : Option Entry) → (P → Q) → IfNone entry P → IfNone entry Q
none_weaker None to holds = to holds
none_weaker (Some entry) to holds = tt

-- the last node of the way, which is read
pub last_read : (network : FlowNetwork) (states : List LinkState) (search : Search) (node : ℕ) → IsSearching network states search → 0 < search.depth
    → node ≡ slice_index_or search.way.items (search.depth - 1) node → node ≡ last_of search
last_read network states search node is some read = get_or_read search.way.items (search.depth - 1) node (omega (arith, is.way.within, is.way.places.way)) read 0

-- a list that is changed at a place alone
pub changed_at : (old new : List ℕ) (node next : ℕ) → node < length old → new ≡ slice_set old node next → new ≡ slice_set old node (slice_index new node)
changed_at old new node next inside is = is ∙ ap (slice_set old node) (sym (ap (λ xs. slice_index xs node) is ∙ get_or-set_same old node next 0 inside))

-- the links out of a node were passed alone
pub moves_out : (old new : Search) (node next : ℕ) → node ≡ last_of old → node < length old.from.items → new.from.items ≡ slice_set old.from.items node next → new.into.items ≡ old.into.items → MovesAt (last_of old) old new
moves_out old new node next last inside from into =
    let Moves : ℕ → Type 0 = λ node. MovesAt node old new in
    subst Moves last (record {
      from = changed_at old.from.items new.from.items node next inside from;
      into = into ∙ sym (ap (λ xs. slice_set old.into.items node (slice_index xs node)) into ∙ set-get_or old.into.items node 0);
    })

-- or all links at it
pub moves_both : (old new : Search) (node next other : ℕ) → node ≡ last_of old → node < length old.from.items → node < length old.into.items → new.from.items ≡ slice_set old.from.items node next
    → new.into.items ≡ slice_set old.into.items node other → MovesAt (last_of old) old new
moves_both old new node next other last inside inside_too from into =
    let Moves : ℕ → Type 0 = λ node. MovesAt node old new in
    subst Moves last (record { from = changed_at old.from.items new.from.items node next inside from; into = changed_at old.into.items new.into.items node other inside_too into })

-- all of them were
pub left_at : (count : ℕ) (old new : Search) (node next other : ℕ) → node ≡ last_of old → node < length old.from.items → node < length old.into.items → new.from.items ≡ slice_set old.from.items node next
    → new.into.items ≡ slice_set old.into.items node other → count ≤ next → count ≤ other → IsLeft count new (last_of old)
left_at count old new node next other last inside inside_too from into past past_too =
    let out : slice_index new.from.items node ≡ next = ap (λ xs. slice_index xs node) from ∙ get_or-set_same old.from.items node next 0 inside in
    let back : slice_index new.into.items node ≡ other = ap (λ xs. slice_index xs node) into ∙ get_or-set_same old.into.items node other 0 inside_too in
    let Left : ℕ → Type 0 = λ node. IsLeft count new node in
    subst Left last (record { from = omega (arith, out); into = omega (arith, back) })

-- the links at the last node of the way are passed, and the way stays
module _ (network : FlowNetwork) (states : List LinkState) (old mid : Search) (is : IsSearching network states old) (some : 0 < old.depth) (same : KeepsWay old mid) (moved : MovesAt (last_of old) old mid) where
  last_inside : old.depth - 1 < old.depth
  last_inside = omega arith

  stays : (place : ℕ) → node_at mid place ≡ node_at old place
  stays place = ap (λ w. slice_index w place) same.way

  came_at : (place : ℕ) → link_at mid place ≡ link_at old place
  came_at place = ap (λ c. slice_index c (node_at mid place)) same.came ∙ ap (λ n. slice_index old.came.items n) (stays place)

  pub places : HasPlaces network.nodes mid
  places = record {
    way = ap length same.way ∙ is.way.places.way;
    came = ap length same.came ∙ is.way.places.came;
    reached = ap length same.reached ∙ is.way.places.reached;
    from = ap length moved.from ∙ length-set old.from.items (last_of old) (slice_index mid.from.items (last_of old)) ∙ is.way.places.from;
    into = ap length moved.into ∙ length-set old.into.items (last_of old) (slice_index mid.into.items (last_of old)) ∙ is.way.places.into;
  }

  -- another node that was left stays so
  left_kept : (node : ℕ) → node ≢ last_of old → IsLeft (length network.links) old node → IsLeft (length network.links) mid node
  left_kept node apart left =
      let from : slice_index mid.from.items node ≡ slice_index old.from.items node = ap (λ xs. slice_index xs node) moved.from ∙ get_or-set_other old.from.items (last_of old) node (slice_index mid.from.items (last_of old)) 0 apart in
      let into : slice_index mid.into.items node ≡ slice_index old.into.items node = ap (λ xs. slice_index xs node) moved.into ∙ get_or-set_other old.into.items (last_of old) node (slice_index mid.into.items (last_of old)) 0 apart in
      record { from = omega (arith, from, left.from); into = omega (arith, into, left.into) }

  -- the last node is left, where none of its links leads on
  pub stepped_back : HaveLed network states mid old.reached.items → IsLeft (length network.links) mid (last_of old) → IsSearching network states (record mid { depth = mid.depth - 1 })
  stepped_back led gone = record {
    way = record {
      places = record { way = places.way; came = places.came; reached = places.reached; from = places.from; into = places.into };
      within = omega (arith, same.depth, is.way.within);
      first = λ more. stays 0 ∙ is.way.first some;
      nodes = λ place inside. rw (stays place) (is.way.nodes place (earlier place inside));
      distinct = λ i j before inside alike. is.way.distinct i j before (earlier j inside) (sym (stays i) ∙ alike ∙ stays j);
      came = λ place more inside.
          let was = is.way.came place more (earlier place inside) in
          record { from = was.from; before = was.before; within = rw (came_at place) was.within; leads = rw (came_at place, stays was.from, stays place) was.leads };
    };
    source = on network.source is.source;
    on_way = λ place inside. on (node_at mid place) (ap (is_on old.reached.items) (stays place) ∙ is.on_way place (earlier place inside));
    from = subst (λ flags. ArePassed network.links states (tail_of network.links) network.nodes (slice_index mid.from.items) flags) (sym same.reached) led.from;
    into = subst (λ flags. ArePassed network.links states (head_of network.links) network.nodes (slice_index mid.into.items) flags) (sym same.reached) led.into;
    left = λ node reached. elim (cases_eq node (last_of old)) [
      | inl last ↦ inr (left_is node (subst (λ n. IsLeft (length network.links) mid n) (sym last) gone))
      | inr apart ↦ elim (is.left node (off node reached)) [
        | inl there ↦ inl (there.0, further node there apart, stays there.0 ∙ there.2)
        | inr left ↦ inr (left_is node (left_kept node apart left))
      ]
    ];
    least = λ side source closed node reached. is.least side source closed node (off node reached);
  }
    where
      earlier : (place : ℕ) → place < mid.depth - 1 → place < old.depth
      earlier place inside = omega (arith, same.depth)

      on : (node : ℕ) → is_on old.reached.items node ≡ true → is_on mid.reached.items node ≡ true
      on node reached = ap (λ f. is_on f node) same.reached ∙ reached

      off : (node : ℕ) → is_on mid.reached.items node ≡ true → is_on old.reached.items node ≡ true
      off node reached = sym (ap (λ f. is_on f node) same.reached) ∙ reached

      left_is : (node : ℕ) → IsLeft (length network.links) mid node → IsLeft (length network.links) (record mid { depth = mid.depth - 1 }) node
      left_is node left = record { from = left.from; into = left.into }

      further : (node : ℕ) (there : IsOnWay old node) → node ≢ last_of old → there.0 < mid.depth - 1
      further node there apart = elim (cases_eq there.0 (old.depth - 1)) [
        | inl last ↦ absurd (apart (sym there.2 ∙ ap (node_at old) last))
        | inr other ↦ omega (arith, there.1, same.depth)
      ]

  -- a link leads from there to a node that wasn't reached
  module _ (new : Search) (entry : Entry) (below : entry.node < network.nodes) (within : entry.link < length network.links) (leads : passage network.links states entry.link (last_of old) ≡ Some entry.node)
      (fresh : is_on old.reached.items entry.node ≡ false) where
    other : (place : ℕ) → place < old.depth → node_at old place ≢ entry.node
    other place inside alike = both_ways _ fresh (ap (is_on old.reached.items) (sym alike) ∙ is.on_way place inside)

    pub room : mid.depth < length mid.way.items
    room =
        let few = fewer old.way.items old.depth network.nodes entry.node (omega (arith, is.way.within, is.way.places.way)) is.way.nodes is.way.distinct below other in
        omega (arith, few, same.depth, places.way)

    module _ (led : HaveLed network states mid (slice_set old.reached.items entry.node true)) (way_is : new.way.items ≡ slice_set mid.way.items mid.depth entry.node) (depth_is : new.depth ≡ mid.depth + 1)
        (came_is : new.came.items ≡ slice_set mid.came.items entry.node entry.link) (reached_is : new.reached.items ≡ slice_set mid.reached.items entry.node true) (from_is : new.from.items ≡ mid.from.items)
        (into_is : new.into.items ≡ mid.into.items) where
      before : (place : ℕ) → place < old.depth → node_at new place ≡ node_at old place
      before place inside =
          let apart : place ≢ mid.depth = omega (arith, same.depth) in
          ap (λ w. slice_index w place) way_is ∙ get_or-set_other mid.way.items mid.depth place entry.node 0 apart ∙ stays place

      here : (place : ℕ) → place ≡ old.depth → node_at new place ≡ entry.node
      here place last =
          let last_mid : place ≡ mid.depth = omega (arith, same.depth) in
          ap (λ w. slice_index w place) way_is ∙ ap (λ n. slice_index (slice_set mid.way.items mid.depth entry.node) n) last_mid ∙ get_or-set_same mid.way.items mid.depth entry.node 0 room

      -- what was reached before, and the node
      flags_are : new.reached.items ≡ slice_set old.reached.items entry.node true
      flags_are = reached_is ∙ ap (λ f. slice_set f entry.node true) same.reached

      on_node : is_on new.reached.items entry.node ≡ true
      on_node =
          let inside : entry.node < length old.reached.items = omega (arith, below, is.way.places.reached) in
          ap (λ f. is_on f entry.node) flags_are ∙ get_or-set_same old.reached.items entry.node true false inside

      kept : (node : ℕ) → is_on old.reached.items node ≡ true → is_on new.reached.items node ≡ true
      kept node on = ap (λ f. is_on f node) flags_are ∙ is_on-set old.reached.items entry.node node on

      off_node : (node : ℕ) → node ≢ entry.node → is_on new.reached.items node ≡ true → is_on old.reached.items node ≡ true
      off_node node apart on = sym (ap (λ f. is_on f node) flags_are ∙ get_or-set_other old.reached.items entry.node node true false apart) ∙ on

      old_link : (place : ℕ) → place < old.depth → link_at new place ≡ link_at old place
      old_link place inside =
          ap (λ c. slice_index c (node_at new place)) came_is ∙ ap (λ n. slice_index (slice_set mid.came.items entry.node entry.link) n) (before place inside)
          ∙ get_or-set_other mid.came.items entry.node (node_at old place) entry.link 0 (other place inside) ∙ ap (λ c. slice_index c (node_at old place)) same.came

      new_link : (place : ℕ) → place ≡ old.depth → link_at new place ≡ entry.link
      new_link place last =
          let inside : entry.node < length mid.came.items = omega (arith, below, places.came) in
          ap (λ c. slice_index c (node_at new place)) came_is ∙ ap (λ n. slice_index (slice_set mid.came.items entry.node entry.link) n) (here place last)
          ∙ get_or-set_same mid.came.items entry.node entry.link 0 inside

      came_more : (place : ℕ) → 0 < place → place < new.depth → CameByLink network.links states new place
      came_more place more inside = elim (cases_eq place old.depth) [
        | inl last ↦
            let from : old.depth - 1 < place = omega (arith, some) in
            record {
              from = old.depth - 1;
              before = from;
              within = rw (new_link place last) within;
              leads = rw (new_link place last, before (old.depth - 1) last_inside, here place last) leads;
            }
        | inr apart ↦
            let earlier : place < old.depth = omega (arith, depth_is, same.depth) in
            let was = is.way.came place more earlier in
            let was_early : was.from < old.depth = omega (arith, was.before) in
            record {
              from = was.from;
              before = was.before;
              within = rw (old_link place earlier) was.within;
              leads = rw (old_link place earlier, before was.from was_early, before place earlier) was.leads;
            }
      ]

      pub entered : IsSearching network states new
      entered = record {
        way = record {
          places = record {
            way = ap length way_is ∙ length-set mid.way.items mid.depth entry.node ∙ places.way;
            came = ap length came_is ∙ length-set mid.came.items entry.node entry.link ∙ places.came;
            reached = ap length reached_is ∙ length-set mid.reached.items entry.node true ∙ places.reached;
            from = ap length from_is ∙ places.from;
            into = ap length into_is ∙ places.into;
          };
          within = omega (arith, depth_is, room, places.way);
          first = λ more. before 0 some ∙ is.way.first some;
          nodes = λ place inside. elim (cases_eq place old.depth) [
            | inl last ↦ rw (here place last) below
            | inr apart ↦ let earlier : place < old.depth = omega (arith, depth_is, same.depth) in rw (before place earlier) (is.way.nodes place earlier)
          ];
          distinct = λ i j less inside alike. elim (cases_eq j old.depth) [
            | inl last ↦ let earlier : i < old.depth = omega arith in other i earlier (sym (before i earlier) ∙ alike ∙ here j last)
            | inr apart ↦
                let earlier : j < old.depth = omega (arith, depth_is, same.depth) in
                is.way.distinct i j less earlier (sym (before i (omega arith)) ∙ alike ∙ before j earlier)
          ];
          came = came_more;
        };
        source = kept network.source is.source;
        on_way = λ place inside. elim (cases_eq place old.depth) [
          | inl last ↦ ap (is_on new.reached.items) (here place last) ∙ on_node
          | inr apart ↦ let earlier : place < old.depth = omega (arith, depth_is, same.depth) in ap (is_on new.reached.items) (before place earlier) ∙ kept _ (is.on_way place earlier)
        ];
        from =
            let Passed : List ℕ → List Bool → Type 0 = λ cursors flags. ArePassed network.links states (tail_of network.links) network.nodes (slice_index cursors) flags in
            subst (Passed new.from.items) (sym flags_are) (subst (λ cursors. Passed cursors (slice_set old.reached.items entry.node true)) (sym from_is) led.from);
        into =
            let Passed : List ℕ → List Bool → Type 0 = λ cursors flags. ArePassed network.links states (head_of network.links) network.nodes (slice_index cursors) flags in
            subst (Passed new.into.items) (sym flags_are) (subst (λ cursors. Passed cursors (slice_set old.reached.items entry.node true)) (sym into_is) led.into);
        left = λ node on. elim (cases_eq node entry.node) [
          | inl alike ↦ inl (old.depth, omega (arith, depth_is, same.depth), here old.depth refl ∙ sym alike)
          | inr apart ↦ elim (cases_eq node (last_of old)) [
            | inl last ↦ inl (old.depth - 1, omega (arith, depth_is, same.depth), before (old.depth - 1) last_inside ∙ sym last)
            | inr further ↦ elim (is.left node (off_node node apart on)) [
              | inl there ↦ inl (there.0, omega (arith, there.1, depth_is, same.depth), before there.0 there.1 ∙ there.2)
              | inr left ↦ inr (left_same node (left_kept node further left))
            ]
          ]
        ];
        least = λ side source closed node on. elim (cases_eq node entry.node) [
          | inl alike ↦
              let last_on : is_on side (last_of old) ≡ true = is.least side source closed (last_of old) (is.on_way (old.depth - 1) last_inside) in
              ap (is_on side) alike ∙ closed entry.link (last_of old) entry.node within last_on leads
          | inr apart ↦ is.least side source closed node (off_node node apart on)
        ];
      }
        where
          left_same : (node : ℕ) → IsLeft (length network.links) mid node → IsLeft (length network.links) new node
          left_same node left =
              let from : slice_index new.from.items node ≡ slice_index mid.from.items node = ap (λ xs. slice_index xs node) from_is in
              let into : slice_index new.into.items node ≡ slice_index mid.into.items node = ap (λ xs. slice_index xs node) into_is in
              record { from = omega (arith, from, left.from); into = omega (arith, into, left.into) }

      pub ends_at : EndsAt entry.node new
      ends_at =
          let last : new.depth - 1 ≡ old.depth = omega (arith, depth_is, same.depth) in
          record { some = omega (arith, depth_is); last = ap (node_at new) last ∙ here old.depth refl }

      pub looks_same : (marks : List Bool) → looks network.links marks new ≡ looks network.links marks mid
      looks_same marks =
          let from = ap (λ xs. passed_ends (tail_of network.links) (length network.links) (slice_index xs)) from_is in
          let into = ap (λ xs. marked_ends (head_of network.links) (length network.links) marks (slice_index xs)) into_is in
          omega (arith, from, into)
