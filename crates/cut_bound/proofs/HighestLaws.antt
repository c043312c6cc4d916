-- No accepted code of a network, also of one with its links in a new order, has a rate above the network's.
use Rattle.std.specs.Prelude.{◌≡◌, ◌<◌, ◌≤◌, ◌/◌, ◌%◌, ℕ, List, length, map}
use Rattle.std.proofs.Common.{arith, sym, ◌∙◌, ap, subst}
use Rattle.std.proofs.lemmas.List.{length-map}
use Rattle.failure_patterns.proofs.DemandLaws.{pattern_place_within}
use Rattle.failure_patterns.specs.Demands.{demand_of}
use Rattle.failure_patterns.specs.Rate.{IsRate}
use Rattle.net_model.specs.Demands.{demand_count}
use Rattle.net_model.specs.Flows.{FlowNetwork, IsCut, flow_network}
use Rattle.net_model.specs.Renumbering.{HasEachOnce, IsRenumbered, new_number, renumbered_network, renumbered_pattern}
use Rattle.net_model.proofs.RenumberingLaws.{flow_network-renumbered, IsCut-new}
use Rattle.net_model.specs.declared.Demand.{Demand}
use Rattle.net_model.specs.declared.net.FieldChoice.{FieldChoice}
use Rattle.net_model.specs.declared.net.Net.{Net}
use Rattle.node_program.specs.Decoding.{IsAccepted}
use Rattle.node_program.specs.declared.code.Code.{Code}
use Rattle.cut_bound.specs.Cuts.{IsWithinCuts}
use Rattle.cut_bound.proofs.RateLaws.{accepted-within_cuts}

-- what is within the cuts of a network is at most its rate
pub within_cuts-rate : (net : Net) (rate best : ℕ) → IsWithinCuts net rate → IsRate net best → rate ≤ best
within_cuts-rate net rate best within is =
    let demand = is.demand in
    let cut = demand.2.0 in
    let low : rate ≤ length cut = within demand.0 demand.1 cut demand.2.1.is_cut in
    omega (arith, low, demand.2.2)

-- what is within the cuts of a network with its links in a new order is within those of the network
pub within_cuts-old : (net new : Net) (order : List ℕ) (choice : FieldChoice) (rate : ℕ) → HasEachOnce (length net.links) order → IsRenumbered order choice net new
    → IsWithinCuts new rate → IsWithinCuts net rate
within_cuts-old net new order choice rate once renumbered within demand below cut is =
    let patterns : length new.patterns ≡ length net.patterns = ap length renumbered.patterns ∙ length-map net.patterns (renumbered_pattern order) in
    let count : demand_count new ≡ demand_count net = cc (ap length renumbered.sinks, patterns) in
    let among : ℕ → Demand = λ many. record { sink = demand / many; pattern = demand % many } in
    let same : flow_network new (demand_of new demand) ≡ renumbered_network (flow_network net (demand_of net demand)) order =
    ap (flow_network new) (ap among patterns)
    ∙ flow_network-renumbered net new order (demand_of net demand) renumbered.nodes renumbered.links renumbered.source renumbered.sinks renumbered.patterns (pattern_place_within net demand below) in
    let IsCutOf : FlowNetwork → Type 0 = λ network. IsCut network (map (new_number order) cut) in
    let low : rate ≤ length (map (new_number order) cut) =
    within demand (subst (λ n. demand < n) (sym count) below) (map (new_number order) cut)
    (subst IsCutOf (sym same) (IsCut-new (flow_network net (demand_of net demand)) once cut is)) in
    omega (arith, low, length-map cut (new_number order))

-- an accepted code of a network with its links in a new order has at most the network's rate
pub accepted-at_most_rate : (net : Net) (order : List ℕ) (choice : FieldChoice) (best : ℕ) (code : Code) → HasEachOnce (length net.links) order → IsRenumbered order choice net code.net
    → IsRate net best → IsAccepted code → code.rate ≤ best
accepted-at_most_rate net order choice best code once renumbered is accepted =
    within_cuts-rate net code.rate best (within_cuts-old net code.net order choice code.rate once renumbered (accepted-within_cuts code accepted)) is
