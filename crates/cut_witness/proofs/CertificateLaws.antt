-- What certificates show: a least cut, a greatest flow, and together the rate of their network.
use Rattle.std.specs.Prelude.{◌≡◌, ◌<◌, ◌≤◌, ◌^◌, ◌+◌, ◌⊎◌, ℕ, zero, suc, Bool, List, [], ◌∷◌, ◌++◌, Some, All, length, slice_get}
use Rattle.std.specs.List.{range_with_len}
use Rattle.std.proofs.Common.{sym, ◌∙◌, ap, subst, get_or, inl, inr, arith}
use Rattle.std.proofs.lemmas.List.FromFn.{length-range_with_len}
use Rattle.std.proofs.lemmas.List.Sums.{count_by-le-length, length-filter}
use Rattle.std.proofs.lemmas.Option.{slice_get_cases, slice_get_within}
use Rattle.net_model.proofs.FlowLaws.{IsGreatestFlow-from_crossing, IsLeastCut-same_size, crossing-below}
use Rattle.net_model.specs.Flows.{FlowNetwork, IsGreatestFlow, IsLeastCut, crossing, flow_network, leaves}
use Rattle.net_model.proofs.WalkLaws.{IsWalk-below}
use Rattle.net_model.specs.declared.Demand.{Demand}
use Rattle.net_model.specs.declared.net.Net.{Net}
use Rattle.failure_patterns.specs.Demands.{demand_of}
use Rattle.failure_patterns.specs.Rate.{HasLeastCut, IsRate}
use Rattle.cut_witness.specs.Certificate.{AreCertificates, AreCertificatesFrom, IsCertificate, IsLeastValue}
use Rattle.cut_witness.specs.declared.cert.Cert.{Cert}

-- no more links leave a side than there are
pub few_crossing : (network : FlowNetwork) (side : List Bool) → length (crossing network side) ≤ length network.links
few_crossing network side =
    omega (arith, length-filter (leaves network side) (range_with_len 0 (length network.links)), count_by-le-length (leaves network side) (range_with_len 0 (length network.links)), length-range_with_len 0 (length network.links))

-- so their number fits into 32 bits
pub few_cut : (net : Net) (demand : Demand) (side : List Bool) (cut : List ℕ) → cut ≡ crossing (flow_network net demand) side → length cut < 2 ^ 32
few_cut net demand side cut are = omega (arith, net.network.few_links, ap length are, few_crossing (flow_network net demand) side)

module _ (net : Net) (cert : Cert) (is : IsCertificate net cert) where
  -- the cut is a least one
  pub IsLeastCut-certificate : IsLeastCut (flow_network net cert.demand) cert.cut
  IsLeastCut-certificate = subst (IsLeastCut (flow_network net cert.demand)) (sym is.crosses) is.least_side.crossed.least

  -- the paths are a greatest flow
  pub IsGreatestFlow-certificate : IsGreatestFlow (flow_network net cert.demand) cert.paths
  IsGreatestFlow-certificate =
      IsGreatestFlow-from_crossing (flow_network net cert.demand) cert.paths cert.side is.flow is.least_side.crossed.is_side (is.paths_value ∙ sym is.cut_value ∙ ap length is.crosses)

  -- the side has a truth value for each node
  pub length-side : length cert.side ≡ length net.nodes
  length-side = is.least_side.crossed.is_side.whole

  -- the cut's links are links of the network
  pub cut-below : All (λ link. link < length net.links) cert.cut
  cut-below = subst (All (λ link. link < length net.links)) (sym is.crosses) (crossing-below (flow_network net cert.demand) cert.side)

  -- and so are those of the paths
  pub paths-below : All (λ path. All (λ link. link < length net.links) path) cert.paths
  paths-below = λ k d within. IsWalk-below net.links (get_or cert.paths k d) (is.flow.each k d within).walk

-- a certificate has the size of each least cut of its demand
pub value-certificate : (net : Net) (number size : ℕ) (cert : Cert) → IsCertificate net cert → cert.demand ≡ demand_of net number → HasLeastCut net number size → cert.value ≡ size
value-certificate net number size cert is same least =
    let Least : Demand → Type 0 = λ demand. IsLeastCut (flow_network net demand) cert.cut in
    sym is.cut_value ∙ IsLeastCut-same_size (flow_network net (demand_of net number)) cert.cut least.0 (subst Least same (IsLeastCut-certificate net cert is)) least.1 ∙ least.2

-- an item of two lists, one after the other, stands in the first or in the second
in_either : {X : Type 0} (xs ys : List X) (place : ℕ) (x : X) → slice_get (xs ++ ys) place ≡ Some x
    → (slice_get xs place ≡ Some x) ⊎ ((k : ℕ) × (place ≡ length xs + k) × (slice_get ys k ≡ Some x))
in_either [] ys place x found = inr (place, omega arith, found)
in_either (y ∷ xs) ys zero x found = inl found
in_either (y ∷ xs) ys (suc place) x found = elim (in_either xs ys place x found) [
  | inl before ↦ inl before
  | inr after ↦ inr (after.0, omega (arith, after.1), after.2)
]

-- those from a number on, and those that go on where they end, are together those from that number on
pub AreCertificatesFrom-append : (net : Net) (first next : ℕ) (certs more : List Cert) → first + length certs ≡ next → AreCertificatesFrom net first certs → AreCertificatesFrom net next more
    → AreCertificatesFrom net first (certs ++ more)
AreCertificatesFrom-append net first next certs more goes_on are are_more = record {
  at = λ place cert found. elim (in_either certs more place cert found) [
    | inl before ↦ are.at place cert before
    | inr after ↦
        let at = are_more.at after.0 cert after.2 in
        let same : next + after.0 ≡ first + place = omega (arith, goes_on, after.1) in
        (at.0, at.1 ∙ ap (demand_of net) same)
  ];
}

-- the certificate of each number
pub AreCertificates-at : (net : Net) (certs : List Cert) → AreCertificates net certs → (number : ℕ) (cert : Cert) → slice_get certs number ≡ Some cert → IsCertificate net cert × (cert.demand ≡ demand_of net number)
AreCertificates-at net certs are number cert found =
    let at = are.are.at number cert found in
    let same : 0 + number ≡ number = omega arith in
    (at.0, at.1 ∙ ap (demand_of net) same)

-- the least value of all certificates is the rate
pub IsRate-least_value : (net : Net) (certs : List Cert) (value : ℕ) → AreCertificates net certs → IsLeastValue certs value → IsRate net value
IsRate-least_value net certs value are least = record {
  demand =
      let number = least.attained.0 in
      let cert = least.attained.1 in
      let within = slice_get_within certs number cert least.attained.2 in
      let at = AreCertificates-at net certs are number cert least.attained.2 in
      let Least : Demand → Type 0 = λ demand. IsLeastCut (flow_network net demand) cert.cut in
      (number, omega (arith, within, are.each_demand), (cert.cut, subst Least at.1 (IsLeastCut-certificate net cert at.0), at.0.cut_value ∙ least.attained.3));
  least = λ number size within has. elim (slice_get_cases certs number).1 [
    | inl here ↦
        let at = AreCertificates-at net certs are number here.0 here.2 in
        omega (arith, least.least number here.0 here.2, value-certificate net number size here.0 at.0 at.1 has)
    | inr past ↦ absurd (omega (arith, past.0, are.each_demand))
  ];
}
