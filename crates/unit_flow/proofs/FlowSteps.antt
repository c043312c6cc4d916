-- One search after another, each of which finds one unit more, but for the last.
use Rattle.std.specs.Prelude.{◌≡◌, ◌<◌, ◌≤◌, ◌+◌, ◌*◌, ◌&&◌, ◌==◌, ℕ, true, false, Bool, List, length, map, slice_index}
use Rattle.std.specs.List.{range_with_len}
use Rattle.std.proofs.Common.{sym, ◌∙◌, ap, subst, arith}
use Rattle.std.proofs.lemmas.List.FromFn.{length-range_with_len}
use Rattle.std.proofs.lemmas.List.Sums.{count_by-le-length}
use Rattle.std.proofs.Math.Nat.{mul-le-mul_left}
use Rattle.counted_steps.specs.Steps.{RoseByAtMost}
use Rattle.net_model.specs.Flows.{IsCut, IsGreatestFlow, IsLeastSide, crossing, flow_network, is_on}
use Rattle.net_model.specs.Lists.{is_rising}
use Rattle.net_model.specs.Walks.{tail_of}
use Rattle.net_model.specs.declared.Demand.{Demand}
use Rattle.net_model.specs.declared.net.Net.{Net}
use Rattle.unit_flow.specs.Conservation.{IsConserved}
use Rattle.unit_flow.proofs.ConservationLaws.{IsConserved-none, IsFlowNetwork-flow_network}
use Rattle.unit_flow.specs.FlowOf.{HasValue}
use Rattle.unit_flow.specs.Reaching.{IsReached}
use Rattle.unit_flow.specs.Residual.{HasStates, IsUnused, ResidualNetwork, is_used}
use Rattle.unit_flow.specs.Searching.{HasPlaces}
use Rattle.unit_flow.proofs.SideLaws.{IsGreatestFlow-reached, IsLeastSide-reached, length-paths_reached}
use Rattle.unit_flow.specs.Decomposition.{paths_of}
use Rattle.unit_flow.proofs.DecompositionLaws.{value-le-cut, is_rising-first_links}
use Rattle.unit_flow.specs.Visits.{visit_bound}
use Rattle.unit_flow.specs.declared.residual.LinkState.{LinkState}
use Rattle.unit_flow.specs.declared.search.Search.{Search}

-- the used links are a flow of so many units, each by one search
pub record IsFlowing (net : Net) (demand : Demand) (residual : ResidualNetwork) (search : Search) (value old new : ℕ) : Type 0 where
  pub kept : residual.demand ≡ demand
  pub conserved : IsConserved (flow_network net demand) residual.states value
  pub places : HasPlaces (length net.nodes) search
  pub ticks : RoseByAtMost (2 * length net.links * value) old new

-- where no link is used, they are one of no unit
pub HasValue-none : (net : Net) (demand : Demand) (residual : ResidualNetwork) → demand.sink < length net.sinks → residual.demand ≡ demand → HasStates net demand residual → IsUnused residual → HasValue net residual 0
HasValue-none net demand residual within kept are unused =
    let Conserved : Demand → Type 0 = λ wanted. IsConserved (flow_network net wanted) residual.states 0 in
    subst Conserved (sym kept) (IsConserved-none (flow_network net demand) residual.states (IsFlowNetwork-flow_network net demand within) are unused)

-- before the first search they are a flow already
pub flowing_start : (net : Net) (demand : Demand) (residual : ResidualNetwork) (search : Search) (value old : ℕ) → residual.demand ≡ demand → HasValue net residual value → HasPlaces (length net.nodes) search
    → IsFlowing net demand residual search value old old
flowing_start net demand residual search value old kept conserved places =
    let Conserved : Demand → Type 0 = λ wanted. IsConserved (flow_network net wanted) residual.states value in
    record {
      kept = kept;
      conserved = subst Conserved kept conserved;
      places = places;
      ticks = record { not_below = omega arith; not_above = omega arith };
    }

-- one unit more
pub flowing_next : (net : Net) (demand : Demand) (residual after : ResidualNetwork) (search next : Search) (value old between new : ℕ) → IsFlowing net demand residual search value old between
    → after.demand ≡ residual.demand
    → ((conserved : ℕ) → IsConserved (flow_network net residual.demand) residual.states conserved → IsConserved (flow_network net residual.demand) after.states (conserved + 1))
    → HasPlaces (length net.nodes) next → RoseByAtMost (2 * length net.links) between new → IsFlowing net demand after next (value + 1) old new
flowing_next net demand residual after search next value old between new flowing same more places ticks =
    let Conserved : Demand → Type 0 = λ wanted. IsConserved (flow_network net wanted) residual.states value in
    let More : Demand → Type 0 = λ wanted. IsConserved (flow_network net wanted) after.states (value + 1) in
    let before = flowing.ticks in
    record {
      kept = same ∙ flowing.kept;
      conserved = subst More flowing.kept (more value (subst Conserved (sym flowing.kept) flowing.conserved));
      places = places;
      ticks = record { not_below = omega arith; not_above = omega arith };
    }

-- there are at most as many units as links
pub flowing_few : (net : Net) (demand : Demand) (states : List LinkState) (value : ℕ) → IsConserved (flow_network net demand) states value → value ≤ length net.links
flowing_few net demand states value conserved =
    let leaves : ℕ → Bool = λ link. is_used states link && (tail_of net.links link == net.source) in
    omega (arith, conserved.from_source, count_by-le-length leaves (range_with_len 0 (length net.links)), length-range_with_len 0 (length net.links))

-- with the last search, there were at most as many as a cut has links and one more
pub flowing_ticks : (net : Net) (demand : Demand) (residual : ResidualNetwork) (search : Search) (value old between new : ℕ) → demand.sink < length net.sinks → IsFlowing net demand residual search value old between
    → RoseByAtMost (2 * length net.links) between new → (cut : List ℕ) → IsCut (flow_network net demand) cut → RoseByAtMost (visit_bound (length net.links) (length cut)) old new
flowing_ticks net demand residual search value old between new within flowing last cut is_cut =
    let few = value-le-cut (flow_network net demand) residual.states value cut (IsFlowNetwork-flow_network net demand within) flowing.conserved is_cut in
    let before = flowing.ticks in
    record { not_below = omega arith; not_above = omega (arith, mul-le-mul_left (2 * length net.links) few) }

-- what a greatest flow and its least side are
pub record AreFound (net : Net) (demand : Demand) (paths : List (List ℕ)) (side : List Bool) : Type 0 where
  pub greatest : IsGreatestFlow (flow_network net demand) paths
  pub rising : is_rising (map (λ path. slice_index path 0) paths) ≡ true
  pub least : IsLeastSide (flow_network net demand) side
  pub as_many : length paths ≡ length (crossing (flow_network net demand) side)

-- after the last search they are found
pub flow_found : (net : Net) (demand : Demand) (residual after : ResidualNetwork) (search : Search) (value old new : ℕ) (paths : List (List ℕ)) (side reached : List Bool) → demand.sink < length net.sinks
    → IsFlowing net demand residual search value old new → after.demand ≡ residual.demand → after.states ≡ residual.states → IsReached (flow_network net residual.demand) residual.states reached
    → is_on reached (slice_index net.sinks residual.demand.sink) ≡ false → paths ≡ paths_of (flow_network net after.demand) value after.states → side ≡ reached → AreFound net demand paths side
flow_found net demand residual after search value old new paths side reached within flowing same stays reaches off decomposed seen =
    let network = flow_network net demand in
    let is = IsFlowNetwork-flow_network net demand within in
    let Conserved : List LinkState → Type 0 = λ states. IsConserved network states value in
    let Reached : Demand → Type 0 = λ wanted. IsReached (flow_network net wanted) after.states reached in
    let Still : List LinkState → Type 0 = λ states. IsReached (flow_network net residual.demand) states reached in
    let Off : Demand → Type 0 = λ wanted. is_on reached (slice_index net.sinks wanted.sink) ≡ false in
    let Paths : List (List ℕ) → Type 0 = λ some. AreFound net demand some side in
    let Side : List Bool → Type 0 = λ some. AreFound net demand (paths_of network value after.states) some in
    let conserved = subst Conserved (sym stays) flowing.conserved in
    let closed = subst Reached flowing.kept (subst Still (sym stays) reaches) in
    let away = subst Off flowing.kept off in
    subst Paths (sym (decomposed ∙ ap (λ (wanted : Demand). paths_of (flow_network net wanted) value after.states) (same ∙ flowing.kept))) (subst Side (sym seen) (record {
      greatest = IsGreatestFlow-reached network after.states value reached is conserved closed away;
      rising = is_rising-first_links network value after.states is conserved;
      least = IsLeastSide-reached network after.states value reached is conserved closed away;
      as_many = length-paths_reached network after.states value reached is conserved closed away;
    }))
