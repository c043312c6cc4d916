-- The flow from which that of a demand is begun: one to its sink where no link fails.
use Rattle.std.specs.Prelude.{◌≡◌, ◌<◌, ◌≤◌, ℕ, ◌+◌, ◌-◌, ◌*◌, ◌/◌, List, length}
use Rattle.std.proofs.Common.{◌∙◌, ap, subst, get_or, arith}
use Rattle.std.proofs.Math.Nat.{div-add-mod}
use Rattle.std.proofs.lemmas.Nat.{div-mul-add}
use Rattle.std.proofs.lemmas.Option.{slice_get-get_or}
use Rattle.net_model.specs.Flows.{IsFlow, flow_network}
use Rattle.net_model.specs.declared.Demand.{Demand}
use Rattle.net_model.specs.declared.net.Net.{Net}
use Rattle.failure_patterns.specs.Demands.{demand_of, number_of}
use Rattle.unit_flow.specs.Begun.{IsFlowToSink}
use Rattle.cut_witness.specs.Certificate.{AreCertificatesFrom}
use Rattle.cut_witness.specs.declared.cert.Cert.{Cert}

-- the demand of a number has it
pub number_of-demand_of : (net : Net) (number : ℕ) → number_of net (demand_of net number) ≡ number
number_of-demand_of net number = grind (arith, div-add-mod number (length net.patterns))

-- what is held for the sink of the first demand, where this one has the same sink
pub IsFlowToSink-held : (net : Net) (demand : Demand) (from count none : ℕ) (held : List (List ℕ)) → demand.pattern < length net.patterns → number_of net demand ≡ from + count
    → none ≡ number_of net (record { sink = demand.sink; pattern = 0 }) → none < from → IsFlowToSink net (demand_of net from) held → IsFlowToSink net demand held
IsFlowToSink-held net demand from count none held within next none_is before is =
    let patterns = length net.patterns in
    let past = from - demand.sink * patterns in
    let place : from ≡ demand.sink * patterns + past = omega arith in
    let same : from / patterns ≡ demand.sink = ap (λ n. n / patterns) place ∙ div-mul-add demand.sink patterns past (omega arith) in
    let ToSink : ℕ → Type 0 = λ sink. (pattern : ℕ) × IsFlow (flow_network net (record { sink = sink; pattern = pattern })) held in
    subst ToSink same is

-- the paths of the certificate of that number, where it is one of the batch
pub IsFlowToSink-certificate : (net : Net) (demand : Demand) (from none : ℕ) (certs : List Cert) (cert : Cert) → demand_of net none ≡ record { sink = demand.sink; pattern = 0 } → from ≤ none → none - from < length certs
    → AreCertificatesFrom net from certs → IsFlowToSink net demand (get_or certs (none - from) cert).paths
IsFlowToSink-certificate net demand from none certs cert none_is not_before within are =
    let at = are.at (none - from) (get_or certs (none - from) cert) (slice_get-get_or certs (none - from) cert within) in
    let number : from + (none - from) ≡ none = omega arith in
    let Flow : Demand → Type 0 = λ other. IsFlow (flow_network net other) (get_or certs (none - from) cert).paths in
    (0, subst Flow (at.1 ∙ ap (demand_of net) number ∙ none_is) at.0.flow)
