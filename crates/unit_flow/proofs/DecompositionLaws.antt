-- Laws of the paths that the used links of a residual network decompose into.
use Rattle.std.specs.Prelude.{◌≡◌, ◌≢◌, ◌<◌, ◌≤◌, ◌+◌, ◌-◌, ℕ, zero, suc, Bool, true, false, ◌&&◌, ◌==◌, nat_eq, nat_lt, if◌then◌else◌, List, [], ◌∷◌, length, map, count_by, slice_index, slice_set, All, Option, Some, None}
use Rattle.std.specs.List.{concat, list_any, range_with_len}
use Rattle.std.specs.Option.{option_map_or}
use Rattle.std.proofs.Common.{refl, sym, ◌∙◌, ap, subst, get_or, arith, inl, inr}
use Rattle.std.proofs.lemmas.Bool.{and_from, both_ways, cases_eq, eq-eqb, eqb-true, eqb-false, false_from_ne_true, lt-ltb, ne_eqb, not_from_false, or_cases, or_left}
use Rattle.std.proofs.lemmas.Option.{none-some}
use Rattle.std.proofs.lemmas.List.Folds.{list_any-append, list_any_at}
use Rattle.std.proofs.lemmas.List.FromFn.{length-range_with_len}
use Rattle.std.proofs.lemmas.List.Sums.{count_by-le-length}
use Rattle.item_list.proofs.Ranges.{find_least}
use Rattle.net_model.proofs.FlowLaws.{flow-le-cut}
use Rattle.net_model.specs.Flows.{FlowNetwork, IsCut, IsFlow, IsPath}
use Rattle.net_model.proofs.ListLaws.{are_distinct-append, is_among-from_list_any, list_all-from_is_among}
use Rattle.net_model.specs.Lists.{are_distinct, is_among, is_rising}
use Rattle.net_model.specs.Walks.{IsWalk, head_of, tail_of}
use Rattle.unit_flow.specs.Conservation.{IsConserved, IsConservedFrom, IsFlowNetwork}
use Rattle.unit_flow.proofs.ConservationLaws.{IsConservedFrom-freed, IsConservedFrom-source, is_used-set_other, is_used-set_same, some_used_leaves, used_fewer-freed, used_leaving_is, used_not_failed}
use Rattle.unit_flow.specs.Residual.{AreStates, is_used}
use Rattle.unit_flow.specs.Decomposition.{Taken, paths_of, taken_from, used_leaving}
use Rattle.unit_flow.specs.declared.residual.LinkState.{LinkState}
use Rattle.unit_flow.specs.declared.residual.LinkState.TheVariants.{Free}

-- links that follow one another from a node to the sink
abbrev LeadsToSink : FlowNetwork → ℕ → List ℕ → Type 0
LeadsToSink network node [] = node ≡ network.sink
LeadsToSink network node (link ∷ path) =
    (link < length network.links) × (tail_of network.links link ≡ node) × LeadsToSink network (head_of network.links link) path

-- they are a walk
leads_walk : (network : FlowNetwork) (node : ℕ) (path : List ℕ) → LeadsToSink network node path → IsWalk network.links path
leads_walk network node [] leads = tt
leads_walk network node (link ∷ []) leads = leads.0
leads_walk network node (link ∷ next ∷ path) leads =
    (leads.0, leads.2.1, leads_walk network (head_of network.links link) (next ∷ path) leads.2)

-- the last of which leads into the sink
leads_end : (network : FlowNetwork) (node link : ℕ) (path : List ℕ) → LeadsToSink network node (link ∷ path) → head_of network.links (slice_index (link ∷ path) (length path)) ≡ network.sink
leads_end network node link [] leads = leads.2
leads_end network node link (next ∷ path) leads = leads_end network (head_of network.links link) next path leads.2

-- used links that lead from the source to the sink are a path
leads_path : (network : FlowNetwork) (states : List LinkState) (path : List ℕ) → IsFlowNetwork network → AreStates network states → LeadsToSink network network.source path
    → ((l : ℕ) → is_among path l ≡ true → is_used states l ≡ true) → IsPath network path
leads_path network states [] is are leads used = absurd (is.apart leads)
leads_path network states (link ∷ path) is are leads used =
    let last : suc (length path) - 1 ≡ length path = omega arith in
    record {
      some = omega arith;
      walk = leads_walk network network.source (link ∷ path) leads;
      start = leads.1;
      end = ap (λ n. head_of network.links (slice_index (link ∷ path) n)) last ∙ leads_end network network.source link path leads;
      working = λ k d within.
          let one = get_or (link ∷ path) k d in
          let among : is_among (link ∷ path) one ≡ true = list_any_at (λ x. x == one) (link ∷ path) k d within (eq-eqb one one refl) in
          sym (are.failed one (leads_within network network.source (link ∷ path) one leads among)) ∙ used_not_failed states one (used one among);
    }
  where
    leads_within : (network : FlowNetwork) (node : ℕ) (path : List ℕ) (l : ℕ) → LeadsToSink network node path → is_among path l ≡ true → l < length network.links
    leads_within network node [] l leads among = cc
    leads_within network node (link ∷ path) l leads among = elim (or_cases _ _ among) [
      | inl here ↦ let same : link ≡ l = eqb-true _ _ here in omega (arith, leads.0)
      | inr later ↦ leads_within network (head_of network.links link) path l leads.2 later
    ]

-- links that lead from a node to the sink were taken: they were used and are used no more, none of them stands twice, and the rest is a flow of so many units
record IsTaken (network : FlowNetwork) (value node : ℕ) (states : List LinkState) (taken : Taken) : Type 0 where
  conserved : IsConserved network taken.states value
  leads : LeadsToSink network node taken.path
  used : (l : ℕ) → is_among taken.path l ≡ true → is_used states l ≡ true
  freed : (l : ℕ) → is_among taken.path l ≡ true → is_used taken.states l ≡ false
  kept : (l : ℕ) → is_used taken.states l ≡ true → is_used states l ≡ true
  distinct : are_distinct nat_eq taken.path ≡ true

-- a link that is used after another became free was used before
used_before : (states : List LinkState) (link l : ℕ) → link < length states → is_used (slice_set states link Free) l ≡ true → is_used states l ≡ true
used_before states link l within used = elim (cases_eq l link) [
  | inl same ↦ absurd (both_ways _ (ap (is_used (slice_set states link Free)) same ∙ is_used-set_same states link Free within) used)
  | inr other ↦ sym (is_used-set_other states link l Free other) ∙ used
]

-- one link, and those that were taken from its head on
IsTaken-next : (network : FlowNetwork) (value node link : ℕ) (states : List LinkState) (rest : Taken) → AreStates network states → link < length network.links → is_used states link ≡ true → tail_of network.links link ≡ node
    → IsTaken network value (head_of network.links link) (slice_set states link Free) rest → IsTaken network value node states (record { path = link ∷ rest.path; states = rest.states })
IsTaken-next network value node link states rest are within used from taken =
    let whole : length states ≡ length network.links = are.each_link in
    let inside : link < length states = omega arith in
    let free : is_used (slice_set states link Free) link ≡ false = is_used-set_same states link Free inside in
    let fresh : list_any (nat_eq link) rest.path ≡ false = false_from_ne_true _ (λ found. both_ways _ free (taken.used link (is_among-from_list_any rest.path link found))) in
    let gone : is_used rest.states link ≡ false = false_from_ne_true _ (λ still. both_ways _ free (taken.kept link still)) in
    record {
      conserved = taken.conserved;
      leads = (within, from, taken.leads);
      used = λ l among. elim (or_cases _ _ among) [
        | inl here ↦ ap (is_used states) (sym (eqb-true link l here)) ∙ used
        | inr later ↦ used_before states link l inside (taken.used l later)
      ];
      freed = λ l among. elim (or_cases _ _ among) [
        | inl here ↦ ap (is_used rest.states) (sym (eqb-true link l here)) ∙ gone
        | inr later ↦ taken.freed l later
      ];
      kept = λ l still. used_before states link l inside (taken.kept l still);
      distinct = and_from _ _ (not_from_false _ fresh) taken.distinct;
    }

-- a link, and what is taken from its head on
abbrev taken_next : FlowNetwork → ℕ → List LinkState → ℕ → Taken
taken_next network most states link =
    let rest = taken_from network most (head_of network.links link) (slice_set states link Free) in
    record { path = link ∷ rest.path; states = rest.states }

-- with more steps than used links, the links taken lead to the sink
IsTaken-taken_from : (network : FlowNetwork) (most value node : ℕ) (states : List LinkState) → IsConservedFrom network states value node → count_by (is_used states) (range_with_len 0 (length network.links)) < most
    → IsTaken network value node states (taken_from network most node states)
IsTaken-taken_from network zero value node states conserved few = absurd (omega arith)
IsTaken-taken_from network (suc most) value node states conserved few =
    at (node == network.sink) refl (λ apart. on (used_leaving network.links states node) refl apart (λ link found.
    let parts = used_leaving_is network.links states node link found in
    let From : ℕ → Type 0 = λ n. IsConservedFrom network states value n in
    let next = IsConservedFrom-freed network states value link (subst From (sym parts.2) conserved) parts.0 parts.1 in
    let fewer = used_fewer-freed network states link conserved.are_states parts.0 parts.1 in
    IsTaken-next network value node link states (taken_from network most (head_of network.links link) (slice_set states link Free)) conserved.are_states parts.0 parts.1 parts.2
    (IsTaken-taken_from network most value (head_of network.links link) (slice_set states link Free) next (omega arith))))
  where
    on : (found : Option ℕ) → used_leaving network.links states node ≡ found → node ≢ network.sink
        → ((link : ℕ) → used_leaving network.links states node ≡ Some link → IsTaken network value node states (taken_next network most states link))
        → IsTaken network value node states (option_map_or (taken_next network most states) found (record { path = []; states = states }))
    on None is apart rest = let some = some_used_leaves network states value node conserved apart in absurd (none-some some.0 (sym is ∙ some.1))
    on (Some link) is apart rest = rest link is

    at : (here : Bool) → (node == network.sink) ≡ here
        → (node ≢ network.sink → IsTaken network value node states (option_map_or (taken_next network most states) (used_leaving network.links states node) (record { path = []; states = states })))
        → IsTaken network value node states (if here then record { path = []; states = states } else option_map_or (taken_next network most states) (used_leaving network.links states node) (record { path = []; states = states }))
    at true is later =
        let same : node ≡ network.sink = eqb-true _ _ is in
        let From : ℕ → Type 0 = λ n. IsConservedFrom network states value n in
        record {
          conserved = subst From same conserved;
          leads = same;
          used = λ l among. cc;
          freed = λ l among. cc;
          kept = λ l still. still;
          distinct = refl;
        }
    at false is later = later (eqb-false _ _ is)

module _ (network : FlowNetwork) (value : ℕ) (states : List LinkState) (is : IsFlowNetwork network) (conserved : IsConserved network states (suc value)) where
  -- one unit of the flow goes from the source on
  from_source : IsConservedFrom network states value network.source
  from_source =
      let more : suc value ≡ value + 1 = omega arith in
      let Conserved : ℕ → Type 0 = λ n. IsConserved network states n in
      IsConservedFrom-source network states value is (subst Conserved more conserved)

  -- the links that are taken from the source lead to the sink
  taken_path : IsTaken network value network.source states (taken_from network (suc (length network.links)) network.source states)
  taken_path =
      let few = count_by-le-length (is_used states) (range_with_len 0 (length network.links)) in
      IsTaken-taken_from network (suc (length network.links)) value network.source states from_source (omega (arith, few, length-range_with_len 0 (length network.links)))

  -- the first of them is the least used link that leaves the source
  taken_first : used_leaving network.links states network.source ≡ Some (slice_index (taken_from network (suc (length network.links)) network.source states).path 0)
  taken_first =
      let some = some_used_leaves network states value network.source from_source is.apart in
      some.1 ∙ ap Some (sym (at some.0 some.1))
    where
      at : (link : ℕ) → used_leaving network.links states network.source ≡ Some link → slice_index (taken_from network (suc (length network.links)) network.source states).path 0 ≡ link
      at link found = rw (ne_eqb network.source network.sink is.apart, found)

  -- which is used no more
  taken_first_freed : is_used (taken_from network (suc (length network.links)) network.source states).states (slice_index (taken_from network (suc (length network.links)) network.source states).path 0) ≡ false
  taken_first_freed =
      let taken = taken_from network (suc (length network.links)) network.source states in
      taken_path.freed (slice_index taken.path 0) (first_among taken.path taken_path.leads)
    where
      first_among : (path : List ℕ) → LeadsToSink network network.source path → is_among path (slice_index path 0) ≡ true
      first_among [] leads = absurd (is.apart leads)
      first_among (link ∷ path) leads = or_left _ _ (eq-eqb link link refl)

-- what stays is a flow of one unit less
pub IsConserved-taken : (network : FlowNetwork) (value : ℕ) (states : List LinkState) → IsFlowNetwork network → IsConserved network states (suc value)
    → IsConserved network (taken_from network (suc (length network.links)) network.source states).states value
IsConserved-taken network value states is conserved = (taken_path network value states is conserved).conserved

-- the links of the paths are used
paths_used : (network : FlowNetwork) (value : ℕ) (states : List LinkState) → IsFlowNetwork network → IsConserved network states value
    → (l : ℕ) → is_among (concat (paths_of network value states)) l ≡ true → is_used states l ≡ true
paths_used network zero states is conserved l among = cc
paths_used network (suc more) states is conserved l among =
    let taken = taken_from network (suc (length network.links)) network.source states in
    let sound = taken_path network more states is conserved in
    elim (or_cases _ _ (sym (list_any-append (λ x. x == l) taken.path (concat (paths_of network more taken.states))) ∙ among)) [
      | inl here ↦ sound.used l here
      | inr later ↦ sound.kept l (paths_used network more taken.states is sound.conserved l later)
    ]

-- there are as many paths as units
pub length-paths_of : (network : FlowNetwork) (value : ℕ) (states : List LinkState) → length (paths_of network value states) ≡ value
length-paths_of network zero states = refl
length-paths_of network (suc more) states = ap suc (length-paths_of network more (taken_from network (suc (length network.links)) network.source states).states)

-- the paths are a flow
pub IsFlow-paths_of : (network : FlowNetwork) (value : ℕ) (states : List LinkState) → IsFlowNetwork network → IsConserved network states value → IsFlow network (paths_of network value states)
IsFlow-paths_of network zero states is conserved = record { each = λ k d within. absurd (omega arith); disjoint = refl }
IsFlow-paths_of network (suc more) states is conserved =
    let taken = taken_from network (suc (length network.links)) network.source states in
    let sound = taken_path network more states is conserved in
    let rest = IsFlow-paths_of network more taken.states is sound.conserved in
    record {
      each = All-cons (IsPath network) taken.path (paths_of network more taken.states) (leads_path network states taken.path is conserved.are_states sound.leads sound.used) rest.each;
      disjoint = are_distinct-append taken.path (concat (paths_of network more taken.states)) sound.distinct rest.disjoint
          (λ l among. false_from_ne_true _ (λ later. both_ways _ (sound.freed l among) (paths_used network more taken.states is sound.conserved l later)));
    }
  where
    All-cons : (P : List ℕ → Type 0) (first : List ℕ) (others : List (List ℕ)) → P first → All P others → All P (first ∷ others)
    All-cons P first others here later zero d within = here
    All-cons P first others here later (suc k) d within = later k d (omega arith)

-- no flow has more units than a cut has links
pub value-le-cut : (network : FlowNetwork) (states : List LinkState) (value : ℕ) (cut : List ℕ) → IsFlowNetwork network → IsConserved network states value → IsCut network cut → value ≤ length cut
value-le-cut network states value cut is conserved is_cut =
    omega (arith, length-paths_of network value states, flow-le-cut network (paths_of network value states) cut (IsFlow-paths_of network value states is conserved) is_cut)

-- their first links are used and leave the source
firsts_leave : (network : FlowNetwork) (value : ℕ) (states : List LinkState) → IsFlowNetwork network → IsConserved network states value
    → (l : ℕ) → is_among (map (λ path. slice_index path 0) (paths_of network value states)) l ≡ true
    → (l < length network.links) × (is_used states l ≡ true) × (tail_of network.links l ≡ network.source)
firsts_leave network zero states is conserved l among = cc
firsts_leave network (suc more) states is conserved l among =
    let taken = taken_from network (suc (length network.links)) network.source states in
    let sound = taken_path network more states is conserved in
    elim (or_cases _ _ among) [
      | inl here ↦ used_leaving_is network.links states network.source l (taken_first network more states is conserved ∙ ap Some (eqb-true _ _ here))
      | inr later ↦ let rest = firsts_leave network more taken.states is sound.conserved l later in (rest.0, sound.kept l rest.1, rest.2)
    ]

-- and rise
pub is_rising-first_links : (network : FlowNetwork) (value : ℕ) (states : List LinkState) → IsFlowNetwork network → IsConserved network states value
    → is_rising (map (λ path. slice_index path 0) (paths_of network value states)) ≡ true
is_rising-first_links network zero states is conserved = refl
is_rising-first_links network (suc more) states is conserved =
    let taken = taken_from network (suc (length network.links)) network.source states in
    let first = slice_index taken.path 0 in
    let sound = taken_path network more states is conserved in
    and_from _ _
    (list_all-from_is_among (nat_lt first) (map (λ path. slice_index path 0) (paths_of network more taken.states)) (λ l among.
    let later = firsts_leave network more taken.states is sound.conserved l among in
    let leaves : (is_used states l && (tail_of network.links l == network.source)) ≡ true = and_from _ _ (sound.kept l later.1) (eq-eqb _ _ later.2) in
    let least : first ≤ l = find_least (λ x. is_used states x && (tail_of network.links x == network.source)) 0 (length network.links) first l (taken_first network more states is conserved) (omega arith) (omega (arith, later.0)) leaves in
    let other : first ≢ l = λ same. both_ways _ (taken_first_freed network more states is conserved) (ap (is_used taken.states) same ∙ later.1) in
    lt-ltb first l (omega arith)))
    (is_rising-first_links network more taken.states is sound.conserved)
