-- A path is taken link by link, and one path after another.
use Rattle.std.specs.Prelude.{◌≡◌, ◌≢◌, ◌<◌, ◌+◌, ℕ, zero, suc, IsSome, is_some, Some, List, [], ◌∷◌, ◌++◌, length, count_by, slice_index, slice_set}
use Rattle.std.specs.List.{range_with_len}
use Rattle.std.proofs.Common.{refl, sym, ◌∙◌, ap, subst, append_assoc, arith}
use Rattle.std.proofs.lemmas.Bool.{eq-eqb, ne_eqb}
use Rattle.std.proofs.lemmas.List.{append-nil}
use Rattle.std.proofs.lemmas.List.FromFn.{length-range_with_len}
use Rattle.std.proofs.lemmas.List.Sums.{count_by-le-length}
use Rattle.net_model.specs.Flows.{FlowNetwork, flow_network}
use Rattle.net_model.specs.Walks.{head_of}
use Rattle.net_model.specs.declared.Demand.{Demand}
use Rattle.net_model.specs.declared.net.Net.{Net}
use Rattle.unit_flow.specs.Conservation.{IsConserved, IsConservedFrom, IsFlowNetwork}
use Rattle.unit_flow.proofs.ConservationLaws.{IsConservedFrom-freed, IsConservedFrom-source, some_used_leaves, used_fewer-freed, used_leaving_is}
use Rattle.unit_flow.specs.Residual.{is_used}
use Rattle.unit_flow.specs.Decomposition.{Taken, paths_of, taken_from, used_leaving}
use Rattle.unit_flow.proofs.DecompositionLaws.{IsConserved-taken}
use Rattle.unit_flow.specs.Taking.{AreCursors, first_taken}
use Rattle.unit_flow.specs.declared.residual.LinkState.{LinkState}
use Rattle.unit_flow.specs.declared.residual.LinkState.TheVariants.{Free}
use Rattle.unit_flow.specs.declared.decomposing.Undecomposed.{Undecomposed}
use Rattle.unit_flow.proofs.CursorSteps.{cursors_freed}

-- links were taken from the source to a node, and from there on the path goes on
pub record IsOnTheWay (network : FlowNetwork) (old states : List LinkState) (path : List ℕ) (node : ℕ) : Type 0 where
  pub value : ℕ
  pub conserved : IsConservedFrom network states value node
  pub most : ℕ
  pub enough : count_by (is_used states) (range_with_len 0 (length network.links)) < most
  pub path_ends : (first_taken network old).path ≡ path ++ (taken_from network most node states).path
  pub states_end : (first_taken network old).states ≡ (taken_from network most node states).states

-- at the source nothing is taken yet
pub way_begins : (network : FlowNetwork) (states : List LinkState) → IsFlowNetwork network → (value : ℕ) × IsConserved network states (suc value) → IsOnTheWay network states states [] network.source
way_begins network states is carries =
    let more : suc carries.0 ≡ carries.0 + 1 = omega arith in
    let Conserved : ℕ → Type 0 = λ n. IsConserved network states n in
    let few = count_by-le-length (is_used states) (range_with_len 0 (length network.links)) in
    record {
      value = carries.0;
      conserved = IsConservedFrom-source network states carries.0 is (subst Conserved more carries.1);
      most = suc (length network.links);
      enough = omega (arith, few, length-range_with_len 0 (length network.links));
      path_ends = refl;
      states_end = refl;
    }

-- the least used link that leaves a node, and what is taken from its head on
taken_from-next : (network : FlowNetwork) (most node link : ℕ) (states : List LinkState) → node ≢ network.sink → used_leaving network.links states node ≡ Some link
    → taken_from network (suc most) node states ≡ record { path = link ∷ (taken_from network most (head_of network.links link) (slice_set states link Free)).path; states = (taken_from network most (head_of network.links link) (slice_set states link Free)).states }
taken_from-next network most node link states apart found = rw (ne_eqb node network.sink apart, found) refl

-- one link more
pub way_next : (network : FlowNetwork) (old states : List LinkState) (path : List ℕ) (node link : ℕ) → IsOnTheWay network old states path node → node ≢ network.sink
    → used_leaving network.links states node ≡ Some link → IsOnTheWay network old (slice_set states link Free) (path ++ link ∷ []) (head_of network.links link)
way_next network old states path node link way apart found = at way.most way.enough way.path_ends way.states_end
  where
    at : (most : ℕ) → count_by (is_used states) (range_with_len 0 (length network.links)) < most → (first_taken network old).path ≡ path ++ (taken_from network most node states).path
        → (first_taken network old).states ≡ (taken_from network most node states).states → IsOnTheWay network old (slice_set states link Free) (path ++ link ∷ []) (head_of network.links link)
    at zero enough path_ends states_end = absurd (omega arith)
    at (suc most) enough path_ends states_end =
        let is = used_leaving_is network.links states node link found in
        let From : ℕ → Type 0 = λ n. IsConservedFrom network states way.value n in
        let next = taken_from-next network most node link states apart found in
        let fewer = used_fewer-freed network states link way.conserved.are_states is.0 is.1 in
        record {
          value = way.value;
          conserved = IsConservedFrom-freed network states way.value link (subst From (sym is.2) way.conserved) is.0 is.1;
          most = most;
          enough = omega arith;
          path_ends = path_ends ∙ ap (λ (taken : Taken). path ++ taken.path) next ∙ sym (append_assoc path (link ∷ []) (taken_from network most (head_of network.links link) (slice_set states link Free)).path);
          states_end = states_end ∙ ap (λ (taken : Taken). taken.states) next;
        }

-- at the sink all is taken
pub way_ends : (network : FlowNetwork) (old states : List LinkState) (path : List ℕ) (node : ℕ) → IsOnTheWay network old states path node → node ≡ network.sink
    → (path ≡ (first_taken network old).path) × (states ≡ (first_taken network old).states)
way_ends network old states path node way here = at way.most way.enough way.path_ends way.states_end
  where
    at : (most : ℕ) → count_by (is_used states) (range_with_len 0 (length network.links)) < most → (first_taken network old).path ≡ path ++ (taken_from network most node states).path
        → (first_taken network old).states ≡ (taken_from network most node states).states → (path ≡ (first_taken network old).path) × (states ≡ (first_taken network old).states)
    at zero enough path_ends states_end = absurd (omega arith)
    at (suc most) enough path_ends states_end =
        let done : taken_from network (suc most) node states ≡ record { path = []; states = states } = rw (eq-eqb node network.sink here) refl in
        (sym (path_ends ∙ ap (λ (taken : Taken). path ++ taken.path) done ∙ append-nil path), sym (states_end ∙ ap (λ (taken : Taken). taken.states) done))

-- so many paths were taken, and so many more follow
pub record IsDecomposedTo (network : FlowNetwork) (value : ℕ) (old states : List LinkState) (paths : List (List ℕ)) (left : ℕ) : Type 0 where
  pub conserved : IsConserved network states left
  pub paths_end : paths_of network value old ≡ paths ++ paths_of network left states

-- one path more
pub decomposed_next : (network : FlowNetwork) (value : ℕ) (old states after : List LinkState) (paths : List (List ℕ)) (path : List ℕ) (left : ℕ) → IsFlowNetwork network → IsDecomposedTo network value old states paths (suc left)
    → path ≡ (first_taken network states).path → after ≡ (first_taken network states).states → IsDecomposedTo network value old after (paths ++ path ∷ []) left
decomposed_next network value old states after paths path left is decomposed taken stays =
    let Conserved : List LinkState → Type 0 = λ some. IsConserved network some left in
    record {
      conserved = subst Conserved (sym stays) (IsConserved-taken network left states is decomposed.conserved);
      paths_end = decomposed.paths_end ∙ ap (λ one. paths ++ one ∷ paths_of network left (first_taken network states).states) (sym taken) ∙ ap (λ some. paths ++ path ∷ paths_of network left some) (sym stays)
          ∙ sym (append_assoc paths (path ∷ []) (paths_of network left after));
    }

-- a path as far as a node, as the code keeps it
pub record IsTaking (net : Net) (old undecomposed : Undecomposed) (path : List ℕ) (node : ℕ) : Type 0 where
  pub demand : undecomposed.residual.demand ≡ old.residual.demand
  pub way : IsOnTheWay (flow_network net old.residual.demand) old.residual.states undecomposed.residual.states path node
  pub cursors : AreCursors net.links (length net.nodes) undecomposed.residual.states undecomposed.cursors.items
  pub inside : node < length net.nodes

-- paths that were taken, as the code keeps them
pub record IsDecomposition (net : Net) (value : ℕ) (old undecomposed : Undecomposed) (paths : List (List ℕ)) (left : ℕ) : Type 0 where
  pub demand : undecomposed.residual.demand ≡ old.residual.demand
  pub decomposed : IsDecomposedTo (flow_network net old.residual.demand) value old.residual.states undecomposed.residual.states paths left
  pub cursors : AreCursors net.links (length net.nodes) undecomposed.residual.states undecomposed.cursors.items

-- some used link leaves a node on the way
pub taking_some : (net : Net) (old undecomposed : Undecomposed) (path : List ℕ) (node : ℕ) → IsTaking net old undecomposed path node → node ≢ slice_index net.sinks old.residual.demand.sink
    → IsSome (used_leaving net.links undecomposed.residual.states node)
taking_some net old undecomposed path node taking apart =
    let some = some_used_leaves (flow_network net old.residual.demand) undecomposed.residual.states taking.way.value node taking.way.conserved apart in
    ap is_some some.1

-- one link is taken
pub taking_next : (net : Net) (old undecomposed after : Undecomposed) (path more : List ℕ) (node link next : ℕ) → IsTaking net old undecomposed path node → node ≢ slice_index net.sinks old.residual.demand.sink
    → used_leaving net.links undecomposed.residual.states node ≡ Some link → after.residual.demand ≡ undecomposed.residual.demand → after.residual.states ≡ slice_set undecomposed.residual.states link Free
    → after.cursors.items ≡ slice_set undecomposed.cursors.items node link → more ≡ path ++ link ∷ [] → next ≡ head_of net.links link → next < length net.nodes → IsTaking net old after more next
taking_next net old undecomposed after path more node link next taking apart found demand states cursors longer leads below =
    let network = flow_network net old.residual.demand in
    let freed = slice_set undecomposed.residual.states link Free in
    let whole : length undecomposed.residual.states ≡ length net.links = taking.way.conserved.are_states.each_link in
    let Way : List LinkState → Type 0 = λ some. IsOnTheWay network old.residual.states some more next in
    let Path : List ℕ → Type 0 = λ some. IsOnTheWay network old.residual.states freed some next in
    let Node : ℕ → Type 0 = λ n. IsOnTheWay network old.residual.states freed (path ++ link ∷ []) n in
    let Cursors : List LinkState → Type 0 = λ some. AreCursors net.links (length net.nodes) some after.cursors.items in
    let Items : List ℕ → Type 0 = λ some. AreCursors net.links (length net.nodes) freed some in
    record {
      demand = demand ∙ taking.demand;
      way = subst Way (sym states) (subst Path (sym longer) (subst Node (sym leads) (way_next network old.residual.states undecomposed.residual.states path node link taking.way apart found)));
      cursors = subst Cursors (sym states) (subst Items (sym cursors) (cursors_freed net.links (length net.nodes) undecomposed.residual.states undecomposed.cursors.items node link taking.cursors whole taking.inside found));
      inside = below;
    }

-- and one fewer is used
pub taking_fewer : (net : Net) (old undecomposed : Undecomposed) (states : List LinkState) (path : List ℕ) (node link : ℕ) → IsTaking net old undecomposed path node → used_leaving net.links undecomposed.residual.states node ≡ Some link
    → states ≡ slice_set undecomposed.residual.states link Free
    → count_by (is_used states) (range_with_len 0 (length net.links)) < count_by (is_used undecomposed.residual.states) (range_with_len 0 (length net.links))
taking_fewer net old undecomposed states path node link taking found freed =
    let is = used_leaving_is net.links undecomposed.residual.states node link found in
    let fewer = used_fewer-freed (flow_network net old.residual.demand) undecomposed.residual.states link taking.way.conserved.are_states is.0 is.1 in
    let same = ap (λ some. count_by (is_used some) (range_with_len 0 (length net.links))) freed in
    omega arith

-- one path is taken
pub decomposition_next : (net : Net) (value : ℕ) (old undecomposed after : Undecomposed) (paths more : List (List ℕ)) (path : List ℕ) (left next : ℕ) → IsFlowNetwork (flow_network net old.residual.demand) → IsDecomposition net value old undecomposed paths left
    → suc next ≡ left → path ≡ (first_taken (flow_network net undecomposed.residual.demand) undecomposed.residual.states).path → after.residual.states ≡ (first_taken (flow_network net undecomposed.residual.demand) undecomposed.residual.states).states
    → after.residual.demand ≡ undecomposed.residual.demand → AreCursors net.links (length net.nodes) after.residual.states after.cursors.items → more ≡ paths ++ path ∷ [] → IsDecomposition net value old after more next
decomposition_next net value old undecomposed after paths more path left next is decomposing one taken stays demand cursors longer =
    let network = flow_network net old.residual.demand in
    let Left : ℕ → Type 0 = λ n. IsDecomposedTo network value old.residual.states undecomposed.residual.states paths n in
    let Paths : List (List ℕ) → Type 0 = λ some. IsDecomposedTo network value old.residual.states after.residual.states some next in
    record {
      demand = demand ∙ decomposing.demand;
      decomposed = subst Paths (sym longer) (decomposed_next network value old.residual.states undecomposed.residual.states after.residual.states paths path next is (subst Left (sym one) decomposing.decomposed)
          (taken ∙ ap (λ (wanted : Demand). (first_taken (flow_network net wanted) undecomposed.residual.states).path) decomposing.demand)
          (stays ∙ ap (λ (wanted : Demand). (first_taken (flow_network net wanted) undecomposed.residual.states).states) decomposing.demand));
      cursors = cursors;
    }
