-- Laws of the states of links, and of the flow that the used ones are.
use Rattle.std.specs.Prelude.{◌≡◌, ◌≢◌, ◌<◌, ◌≤◌, ◌+◌, ℕ, zero, suc, Bool, true, false, ◌&&◌, ◌==◌, cond, if◌then◌else◌, List, [], ◌∷◌, length, count_by, find, slice_get, slice_set, Option, Some, None}
use Rattle.std.specs.List.{range_with_len}
use Rattle.std.specs.Option.{option_map_or}
use Rattle.std.proofs.Common.{refl, sym, ◌∙◌, ap, arith, inl, inr, ◌⊎◌}
use Rattle.std.proofs.lemmas.Bool.{and_parts, and_left, cases_eq, eq-eqb, eqb-true, ltb-true, ne_eqb, not-true, eqb-false}
use Rattle.std.proofs.lemmas.List.{length-set}
use Rattle.std.proofs.lemmas.List.Sums.{sum_by-cons}
use Rattle.item_list.proofs.Ranges.{find_passes}
use Rattle.item_list.proofs.Tests.{passes_at}
use Rattle.item_list.proofs.Writes.{slice_get-set_other, slice_get-set_same}
use Rattle.net_model.proofs.EndLaws.{ends_below}
use Rattle.net_model.specs.Flows.{FlowNetwork, flow_network}
use Rattle.net_model.specs.Network.{is_sink_among}
use Rattle.net_model.specs.Walks.{head_of, tail_of}
use Rattle.net_model.specs.declared.Demand.{Demand}
use Rattle.net_model.specs.declared.Link.{Link}
use Rattle.net_model.specs.declared.net.Net.{Net}
use Rattle.unit_flow.specs.Conservation.{IsConserved, IsConservedFrom, IsFlowNetwork, used_from, used_into}
use Rattle.unit_flow.specs.Residual.{AreStates, is_failed, is_failed_state, is_free, is_free_state, is_used, is_used_state}
use Rattle.unit_flow.specs.Decomposition.{used_leaving}
use Rattle.unit_flow.specs.declared.residual.LinkState.{LinkState}
use Rattle.unit_flow.specs.declared.residual.LinkState.TheVariants.{Free, Used, Failed}

-- the flow network of a demand is one
pub IsFlowNetwork-flow_network : (net : Net) (demand : Demand) → demand.sink < length net.sinks → IsFlowNetwork (flow_network net demand)
IsFlowNetwork-flow_network net demand within =
    let ends = λ (link : ℕ) (inside : link < length net.links). ends_below net.links (length net.nodes) link net.network.link_ends inside in
    let sink = and_parts _ _ (passes_at (is_sink_among (length net.nodes) net.source) net.sinks demand.sink 0 net.network.sink_nodes within) in
    record {
      tails = λ link inside. (ends link inside).0;
      heads = λ link inside. (ends link inside).1;
      source_node = net.network.source_node;
      sink_node = ltb-true _ _ sink.0;
      apart = λ same. eqb-false _ _ (not-true _ sink.1) (sym same);
    }

-- a link whose state is set is used exactly where that state is
pub is_used-set_same : (states : List LinkState) (link : ℕ) (state : LinkState) → link < length states → is_used (slice_set states link state) link ≡ is_used_state state
is_used-set_same states link state within = ap (λ one. option_map_or is_used_state one false) (slice_get-set_same states link state within)

-- and failed
pub is_failed-set_same : (states : List LinkState) (link : ℕ) (state : LinkState) → link < length states → is_failed (slice_set states link state) link ≡ is_failed_state state
is_failed-set_same states link state within = ap (λ one. option_map_or is_failed_state one false) (slice_get-set_same states link state within)

-- any other link is used exactly where it was
pub is_used-set_other : (states : List LinkState) (link other : ℕ) (state : LinkState) → other ≢ link → is_used (slice_set states link state) other ≡ is_used states other
is_used-set_other states link other state apart = ap (λ one. option_map_or is_used_state one false) (slice_get-set_other states link other state apart)

-- and so with free
pub is_free-set_other : (states : List LinkState) (link other : ℕ) (state : LinkState) → other ≢ link → is_free (slice_set states link state) other ≡ is_free states other
is_free-set_other states link other state apart = ap (λ one. option_map_or is_free_state one false) (slice_get-set_other states link other state apart)

-- and failed
pub is_failed-set_other : (states : List LinkState) (link other : ℕ) (state : LinkState) → other ≢ link → is_failed (slice_set states link state) other ≡ is_failed states other
is_failed-set_other states link other state apart = ap (λ one. option_map_or is_failed_state one false) (slice_get-set_other states link other state apart)

-- a link in a state that passes one test doesn't pass another that no state passes with it
not_both : (one other : LinkState → Bool) → (one Free && other Free) ≡ false → (one Used && other Used) ≡ false → (one Failed && other Failed) ≡ false
    → (found : Option LinkState) → option_map_or one found false ≡ true → option_map_or other found false ≡ false
not_both one other free used failed None is = refl
not_both one other free used failed (Some Free) is = sym (ap (λ b. b && other Free) is) ∙ free
not_both one other free used failed (Some Used) is = sym (ap (λ b. b && other Used) is) ∙ used
not_both one other free used failed (Some Failed) is = sym (ap (λ b. b && other Failed) is) ∙ failed

-- a used link didn't fail
pub used_not_failed : (states : List LinkState) (link : ℕ) → is_used states link ≡ true → is_failed states link ≡ false
used_not_failed states link used = not_both is_used_state is_failed_state refl refl refl (slice_get states link) used

-- nor did a free one
free_not_failed : (states : List LinkState) (link : ℕ) → is_free states link ≡ true → is_failed states link ≡ false
free_not_failed states link free = not_both is_free_state is_failed_state refl refl refl (slice_get states link) free

-- which isn't used
free_not_used : (states : List LinkState) (link : ℕ) → is_free states link ≡ true → is_used states link ≡ false
free_not_used states link free = not_both is_free_state is_used_state refl refl refl (slice_get states link) free

-- how many of a range pass a test, by its first number
count_next : (test : ℕ → Bool) (a n : ℕ) → count_by test (range_with_len a (suc n)) ≡ cond (test a) 1 0 + count_by test (range_with_len (a + 1) n)
count_next test a n = sum_by-cons (λ l. cond (test l) 1 0) a (range_with_len (a + 1) n)

-- two tests that agree on a range count alike
count_same : (f g : ℕ → Bool) (a n : ℕ) → ((l : ℕ) → a ≤ l → l < a + n → g l ≡ f l) → count_by g (range_with_len a n) ≡ count_by f (range_with_len a n)
count_same f g a zero agree = refl
count_same f g a (suc n) agree =
    let here : cond {A = ℕ} (g a) 1 0 ≡ cond (f a) 1 0 = ap (λ b. cond {A = ℕ} b 1 0) (agree a (omega arith) (omega arith)) in
    let rest = count_same f g (a + 1) n (λ l above below. agree l (omega arith) (omega arith)) in
    omega (arith, count_next f a n, count_next g a n)

-- and tests that differ at one number, which fails the first, differ by whether it passes the second
count_one : (f g : ℕ → Bool) (a n x : ℕ) → a ≤ x → x < a + n → f x ≡ false → ((l : ℕ) → l ≢ x → g l ≡ f l)
    → count_by g (range_with_len a n) ≡ count_by f (range_with_len a n) + cond (g x) 1 0
count_one f g a zero x from within fails agree = absurd (omega arith)
count_one f g a (suc n) x from within fails agree =
    elim (cases_eq a x) [
      | inl same ↦
          let here : cond {A = ℕ} (f a) 1 0 ≡ 0 = ap (λ b. cond {A = ℕ} b 1 0) (ap f same ∙ fails) in
          let there : cond {A = ℕ} (g a) 1 0 ≡ cond (g x) 1 0 = ap (λ l. cond {A = ℕ} (g l) 1 0) same in
          let rest = count_same f g (a + 1) n (λ l above below. agree l (λ is. omega arith)) in
          omega (arith, count_next f a n, count_next g a n)
      | inr other ↦
          let here : cond {A = ℕ} (g a) 1 0 ≡ cond (f a) 1 0 = ap (λ b. cond {A = ℕ} b 1 0) (agree a other) in
          let rest = count_one f g (a + 1) n x (omega arith) (omega arith) fails agree in
          omega (arith, count_next f a n, count_next g a n)
    ]

-- a link is used in the one and not in the other, and any other link is used in both or in neither
record IsUsedBesides (links : List Link) (link : ℕ) (fewer more : List LinkState) : Type 0 where
  within : link < length links
  unused : is_used fewer link ≡ false
  used : is_used more link ≡ true
  others : (other : ℕ) → other ≢ link → is_used more other ≡ is_used fewer other

-- the used links with one end at a node are one more where that of the link is
count_besides : (links : List Link) (link : ℕ) (fewer more : List LinkState) (end : ℕ → ℕ) (node : ℕ) → IsUsedBesides links link fewer more
    → count_by (λ l. is_used more l && (end l == node)) (range_with_len 0 (length links))
    ≡ count_by (λ l. is_used fewer l && (end l == node)) (range_with_len 0 (length links)) + (if end link == node then 1 else 0)
count_besides links link fewer more end node besides =
    let within : link < length links = besides.within in
    count_one (λ l. is_used fewer l && (end l == node)) (λ l. is_used more l && (end l == node)) 0 (length links) link (omega arith) (omega arith)
    (and_left (is_used fewer link) (end link == node) besides.unused)
    (λ other apart. ap (λ b. b && (end other == node)) (besides.others other apart))
    ∙ ap (λ b. count_by (λ l. is_used fewer l && (end l == node)) (range_with_len 0 (length links)) + (if b && (end link == node) then 1 else 0)) besides.used

-- those that leave a node
from_besides : (links : List Link) (link : ℕ) (fewer more : List LinkState) (node : ℕ) → IsUsedBesides links link fewer more
    → used_from links more node ≡ used_from links fewer node + (if tail_of links link == node then 1 else 0)
from_besides links link fewer more node besides = count_besides links link fewer more (tail_of links) node besides

-- and those that lead into it
into_besides : (links : List Link) (link : ℕ) (fewer more : List LinkState) (node : ℕ) → IsUsedBesides links link fewer more
    → used_into links more node ≡ used_into links fewer node + (if head_of links link == node then 1 else 0)
into_besides links link fewer more node besides = count_besides links link fewer more (head_of links) node besides

-- the states are those of the links after one that didn't fail becomes free or used
AreStates-set : (network : FlowNetwork) (states : List LinkState) (link : ℕ) (state : LinkState) → AreStates network states → link < length network.links → is_failed states link ≡ false → is_failed_state state ≡ false
    → AreStates network (slice_set states link state)
AreStates-set network states link state are within works not_failed =
    let whole : length states ≡ length network.links = are.each_link in
    let inside : link < length states = omega arith in
    record {
      each_link = length-set states link state ∙ whole;
      failed = λ other below. elim (cases_eq other link) [
        | inl same ↦ ap (is_failed (slice_set states link state)) same ∙ is_failed-set_same states link state inside ∙ not_failed ∙ sym works ∙ sym (ap (is_failed states) same) ∙ are.failed other below
        | inr apart ↦ is_failed-set_other states link other state apart ∙ are.failed other below
      ];
    }

-- a free link that becomes used is used besides the others
besides_used : (network : FlowNetwork) (states : List LinkState) (link : ℕ) → AreStates network states → link < length network.links → is_free states link ≡ true
    → IsUsedBesides network.links link states (slice_set states link Used)
besides_used network states link are within free =
    let whole : length states ≡ length network.links = are.each_link in
    record {
      within = within;
      unused = free_not_used states link free;
      used = is_used-set_same states link Used (omega arith);
      others = λ other apart. is_used-set_other states link other Used apart;
    }

-- and a used link that becomes free was
besides_freed : (network : FlowNetwork) (states : List LinkState) (link : ℕ) → AreStates network states → link < length network.links → is_used states link ≡ true
    → IsUsedBesides network.links link (slice_set states link Free) states
besides_freed network states link are within used =
    let whole : length states ≡ length network.links = are.each_link in
    record {
      within = within;
      unused = is_used-set_same states link Free (omega arith);
      used = used;
      others = λ other apart. sym (is_used-set_other states link other Free apart);
    }

-- then one link fewer is used
pub used_fewer-freed : (network : FlowNetwork) (states : List LinkState) (link : ℕ) → AreStates network states → link < length network.links → is_used states link ≡ true
    → count_by (is_used states) (range_with_len 0 (length network.links)) ≡ count_by (is_used (slice_set states link Free)) (range_with_len 0 (length network.links)) + 1
used_fewer-freed network states link are within used =
    let besides = besides_freed network states link are within used in
    count_one (is_used (slice_set states link Free)) (is_used states) 0 (length network.links) link (omega arith) (omega arith) besides.unused besides.others
    ∙ ap (λ b. count_by (is_used (slice_set states link Free)) (range_with_len 0 (length network.links)) + cond b 1 0) used

-- a unit at one of two nodes that are the same is at the other
one_at : (one other : ℕ) → one ≡ other → ◌≡◌ {A = ℕ} (if one == other then 1 else 0) 1
one_at one other same = ap (λ b. cond {A = ℕ} b 1 0) (eq-eqb one other same)

-- and at one of two that differ it isn't
none_at : (one other : ℕ) → one ≢ other → ◌≡◌ {A = ℕ} (if one == other then 1 else 0) 0
none_at one other apart = ap (λ b. cond {A = ℕ} b 1 0) (ne_eqb one other apart)

-- the same links are a flow from another node on where it makes no difference at the source and between source and sink
conserved_alike : (network : FlowNetwork) (states : List LinkState) (value other_value node other_node : ℕ) → IsConservedFrom network states value node
    → value + (if node == network.source then 1 else 0) ≡ other_value + (if other_node == network.source then 1 else 0)
    → ((other : ℕ) → other ≢ network.source → other ≢ network.sink → ◌≡◌ {A = ℕ} (if node == other then 1 else 0) (if other_node == other then 1 else 0))
    → IsConservedFrom network states other_value other_node
conserved_alike network states value other_value node other_node conserved at_source between =
    record {
      are_states = conserved.are_states;
      from_source = conserved.from_source ∙ at_source;
      into_source = conserved.into_source;
      from_sink = conserved.from_sink;
      balance = λ other not_source not_sink. conserved.balance other not_source not_sink ∙ ap (λ n. used_into network.links states other + n) (between other not_source not_sink);
    }

-- where no link is used, the flow has no unit
pub IsConserved-none : (network : FlowNetwork) (states : List LinkState) → IsFlowNetwork network → AreStates network states → ((link : ℕ) → is_used states link ≡ false) → IsConserved network states 0
IsConserved-none network states is are none =
    let nothing = λ (end : ℕ → ℕ) (node : ℕ).
    count_same (λ _. false) (λ l. is_used states l && (end l == node)) 0 (length network.links) (λ l above below. and_left (is_used states l) (end l == node) (none l))
    ∙ count_none 0 (length network.links) in
    record {
      are_states = are;
      from_source = let from = nothing (tail_of network.links) network.source in omega (arith, from, none_at network.sink network.source (λ same. is.apart (sym same)));
      into_source = nothing (head_of network.links) network.source;
      from_sink = nothing (tail_of network.links) network.sink;
      balance = λ other not_source not_sink.
          let from = nothing (tail_of network.links) other in
          let into = nothing (head_of network.links) other in
          let unit = none_at network.sink other (λ same. not_sink (sym same)) in
          omega (arith, from, into, unit);
    }
  where
    count_none : (a n : ℕ) → count_by (λ _. false) (range_with_len a n) ≡ 0
    count_none a zero = refl
    count_none a (suc n) = let rest = count_none (a + 1) n in omega (arith, rest, count_next (λ _. false) a n)

-- where a free link into a node becomes used, the unit more goes on from the link's tail
pub IsConservedFrom-used : (network : FlowNetwork) (states : List LinkState) (value link : ℕ) → IsConservedFrom network states value (head_of network.links link) → link < length network.links → is_free states link ≡ true
    → head_of network.links link ≢ network.source → tail_of network.links link ≢ network.sink → IsConservedFrom network (slice_set states link Used) value (tail_of network.links link)
IsConservedFrom-used network states value link conserved within free not_into not_from =
    let besides = besides_used network states link conserved.are_states within free in
    let from = λ (node : ℕ). from_besides network.links link states (slice_set states link Used) node besides in
    let into = λ (node : ℕ). into_besides network.links link states (slice_set states link Used) node besides in
    record {
      are_states = AreStates-set network states link Used conserved.are_states within (free_not_failed states link free) refl;
      from_source = omega (arith, from network.source, conserved.from_source, none_at _ _ not_into);
      into_source = omega (arith, into network.source, conserved.into_source, none_at _ _ not_into);
      from_sink = omega (arith, from network.sink, conserved.from_sink, none_at _ _ not_from);
      balance = λ other not_source not_sink. omega (arith, from other, into other, conserved.balance other not_source not_sink);
    }

-- where a used link that leaves it becomes free, from the link's head
pub IsConservedFrom-freed : (network : FlowNetwork) (states : List LinkState) (value link : ℕ) → IsConservedFrom network states value (tail_of network.links link) → link < length network.links → is_used states link ≡ true
    → IsConservedFrom network (slice_set states link Free) value (head_of network.links link)
IsConservedFrom-freed network states value link conserved within used =
    let besides = besides_freed network states link conserved.are_states within used in
    let from = λ (node : ℕ). from_besides network.links link (slice_set states link Free) states node besides in
    let into = λ (node : ℕ). into_besides network.links link (slice_set states link Free) states node besides in
    record {
      are_states = AreStates-set network states link Free conserved.are_states within (used_not_failed states link used) refl;
      from_source = omega (arith, from network.source, into network.source, conserved.from_source, conserved.into_source);
      into_source = omega (arith, into network.source, conserved.into_source);
      from_sink = omega (arith, from network.sink, conserved.from_sink);
      balance = λ other not_source not_sink. omega (arith, from other, into other, conserved.balance other not_source not_sink);
    }

-- one unit more from the source on is one unit more
pub IsConserved-from_source : (network : FlowNetwork) (states : List LinkState) (value : ℕ) → IsFlowNetwork network → IsConservedFrom network states value network.source → IsConserved network states (value + 1)
IsConserved-from_source network states value is conserved =
    conserved_alike network states value (value + 1) network.source network.sink conserved
    (omega (arith, one_at network.source network.source refl, none_at network.sink network.source (λ same. is.apart (sym same))))
    (λ other not_source not_sink. none_at network.source other (λ same. not_source (sym same)) ∙ sym (none_at network.sink other (λ same. not_sink (sym same))))

-- and one unit of a flow is one more from the source on
pub IsConservedFrom-source : (network : FlowNetwork) (states : List LinkState) (value : ℕ) → IsFlowNetwork network → IsConserved network states (value + 1) → IsConservedFrom network states value network.source
IsConservedFrom-source network states value is conserved =
    conserved_alike network states (value + 1) value network.sink network.source conserved
    (omega (arith, one_at network.source network.source refl, none_at network.sink network.source (λ same. is.apart (sym same))))
    (λ other not_source not_sink. none_at network.sink other (λ same. not_sink (sym same)) ∙ sym (none_at network.source other (λ same. not_source (sym same))))

-- where some number of a list passes a test, one is found
some_found : (test : ℕ → Bool) (xs : List ℕ) → 0 < count_by test xs → (x : ℕ) × (find test xs ≡ Some x)
some_found test [] some = absurd (omega arith)
some_found test (x ∷ xs) some =
    at (test x) refl (λ is. some_found test xs (let none : cond {A = ℕ} (test x) 1 0 ≡ 0 = ap (λ b. cond {A = ℕ} b 1 0) is in omega (arith, some, sum_by-cons (λ l. cond (test l) 1 0) x xs)))
  where
    at : (here : Bool) → test x ≡ here → (test x ≡ false → (y : ℕ) × (find test xs ≡ Some y)) → (y : ℕ) × (cond here (Some x) (find test xs) ≡ Some y)
    at true is later = (x, refl)
    at false is later = later is

-- what is found is a used link that leaves the node
pub used_leaving_is : (links : List Link) (states : List LinkState) (node link : ℕ) → used_leaving links states node ≡ Some link
    → (link < length links) × (is_used states link ≡ true) × (tail_of links link ≡ node)
used_leaving_is links states node link found =
    let parts = find_passes (λ l. is_used states l && (tail_of links l == node)) 0 (length links) link found in
    let both = and_parts _ _ parts.2 in
    (omega (arith, parts.1), both.0, eqb-true _ _ both.1)

-- one unit more from a node on leaves it by a used link, unless it is the sink
pub some_used_leaves : (network : FlowNetwork) (states : List LinkState) (value node : ℕ) → IsConservedFrom network states value node → node ≢ network.sink
    → (link : ℕ) × (used_leaving network.links states node ≡ Some link)
some_used_leaves network states value node conserved not_sink =
    some_found (λ l. is_used states l && (tail_of network.links l == node)) (range_with_len 0 (length network.links)) (leaves (cases_eq node network.source))
  where
    leaves : (node ≡ network.source) ⊎ (node ≡ network.source → ⊥) → 0 < used_from network.links states node
    leaves (inl same) = rw (ap (used_from network.links states) same) (omega (arith, conserved.from_source, one_at node network.source same))
    leaves (inr other) = omega (arith, conserved.balance node other not_sink, one_at node node refl)
