-- The demands that show that a rate can't be had, told by a network's certificates.
use Rattle.std.specs.Prelude.{◌≡◌, ◌<◌, ◌≤◌, ◌-◌, ◌*◌, ℕ, List, Option, None, Some, length, slice_get, unwrap_or}
use Rattle.std.proofs.Common.{refl, subst, sym, inl, inr, arith}
use Rattle.std.proofs.lemmas.Option.{slice_get_cases, slice_get_within}
use Rattle.net_model.specs.Demands.{demand_count}
use Rattle.net_model.specs.Flows.{IsLeastCut, IsLeastSide, flow_network}
use Rattle.net_model.specs.Network.{IsWanted}
use Rattle.net_model.specs.declared.Demand.{Demand}
use Rattle.net_model.specs.declared.net.Net.{Net}
use Rattle.failure_patterns.proofs.DemandLaws.{few_demands, some_demand}
use Rattle.failure_patterns.specs.Demands.{demand_of}
use Rattle.failure_patterns.specs.Rate.{HasLeastCut, IsFirstWith, rate_used}
use Rattle.cut_witness.specs.Certificate.{AreCertificates, IsLeastValue}
use Rattle.cut_witness.proofs.CertificateLaws.{AreCertificates-at, IsLeastCut-certificate, IsRate-least_value, value-certificate}
use Rattle.cut_witness.specs.declared.cert.Cert.{Cert}
use Rattle.lif_compiler.specs.Rating.{IsFirstOf}
use Rattle.lif_compiler.specs.Refused.{IsRateOver, IsRateUnmet, IsZeroRate}

-- where the rate of a network's codes is above the network's, it is wanted
some_wanted : (wanted : Option ℕ) (least : ℕ) → least < unwrap_or wanted least → wanted ≡ Some (unwrap_or wanted least)
some_wanted None least above = absurd (omega arith)
some_wanted (Some rate) least above = refl

-- where it is above 32, none is wanted
none_wanted : (wanted : Option ℕ) (least : ℕ) → IsWanted wanted → 32 < unwrap_or wanted least → wanted ≡ None
none_wanted None least fits over = refl
none_wanted (Some rate) least fits over = absurd (omega (arith, (fits rate refl).1))

-- the first demand with a size of which this holds is also the first with one of which that holds, where both hold of
-- the same sizes of least cuts
IsFirstWith-same : (net : Net) (P Q : ℕ → Type 0) (demand size : ℕ) → ((number other : ℕ) → number < demand_count net → HasLeastCut net number other → P other → Q other)
    → ((other : ℕ) → Q other → P other) → IsFirstWith net P demand size → IsFirstWith net Q demand size
IsFirstWith-same net P Q demand size forth back is = record {
  within = is.within;
  has = is.has;
  holds = forth demand size is.within is.has is.holds;
  first = λ earlier other before has holds. is.first earlier other before has (back other holds);
}

-- the first of certificates with such a value is one of them
pub IsFirstOf-within : (P : ℕ → Type 0) (certs : List Cert) (number : ℕ) → IsFirstOf P certs number → number < length certs
IsFirstOf-within P certs number is = slice_get_within certs number is.has.0 is.has.1

module _ (net : Net) (certs : List Cert) (are : AreCertificates net certs) where
  -- there is a certificate
  pub some_certificate : 0 < length certs
  some_certificate = omega (arith, are.each_demand, some_demand net)

  -- a certificate's number fits into 32 bits
  pub IsFirstOf-small : (P : ℕ → Type 0) (number : ℕ) → IsFirstOf P certs number → number < 4096 * 4096
  IsFirstOf-small P number is = omega (arith, IsFirstOf-within P certs number is, are.each_demand, few_demands net)

  module _ (number : ℕ) (cert : Cert) (there : slice_get certs number ≡ Some cert) where
    -- the demand of a certificate's number has a least cut of its value
    pub HasLeastCut-certificate : HasLeastCut net number cert.value
    HasLeastCut-certificate =
        let at = AreCertificates-at net certs are number cert there in
        let Least : Demand → Type 0 = λ demand. IsLeastCut (flow_network net demand) cert.cut in
        (cert.cut, subst Least at.1 (IsLeastCut-certificate net cert at.0), at.0.cut_value)

    -- and its side is the least one of that demand
    pub IsLeastSide-certificate : IsLeastSide (flow_network net (demand_of net number)) cert.side
    IsLeastSide-certificate =
        let at = AreCertificates-at net certs are number cert there in
        let Least : Demand → Type 0 = λ demand. IsLeastSide (flow_network net demand) cert.side in
        subst Least at.1 at.0.least_side

    -- each least cut of that demand has its value
    pub value_of_demand : (size : ℕ) → HasLeastCut net number size → cert.value ≡ size
    value_of_demand size has =
        let at = AreCertificates-at net certs are number cert there in
        value-certificate net number size cert at.0 at.1 has

  -- the first certificate of whose value this holds belongs to the first demand of whose least cut's size it holds
  pub IsFirstWith-first_of : (P : ℕ → Type 0) (number : ℕ) (cert : Cert) → IsFirstOf P certs number → slice_get certs number ≡ Some cert → IsFirstWith net P number cert.value
  IsFirstWith-first_of P number cert is there =
      let within = slice_get_within certs number cert there in
      let same : is.has.0 ≡ cert = cc (is.has.1, there) in
      record {
        within = omega (arith, within, are.each_demand);
        has = HasLeastCut-certificate number cert there;
        holds = subst (λ (cert : Cert). P cert.value) same is.has.2;
        first = λ earlier other before has holds. elim (slice_get_cases certs earlier).1 [
          | inl here ↦ is.first earlier here.0 before here.2 (subst P (sym (value_of_demand earlier here.0 here.2 other has)) holds)
          | inr past ↦ absurd (omega (arith, past.0, before, within))
        ];
      }

  -- where the least value is 0, the first certificate that has it shows it
  pub IsZeroRate-first : (number : ℕ) (cert : Cert) → IsFirstOf (λ value. value ≤ 0) certs number → slice_get certs number ≡ Some cert → IsZeroRate net number cert.side
  IsZeroRate-first number cert is there =
      let first = IsFirstWith-first_of (λ value. value ≤ 0) number cert is there in
      let none : cert.value ≡ 0 = omega (arith, first.holds) in
      record {
        first = subst (IsFirstWith net (λ size. size ≡ 0) number) none
            (IsFirstWith-same net (λ size. size ≤ 0) (λ size. size ≡ 0) number cert.value (λ number size within has below. omega arith) (λ size same. omega arith) first);
        least_side = IsLeastSide-certificate number cert there;
      }

  -- where a rate above it is wanted, the first that is below the wanted one
  pub IsRateUnmet-first : (number least : ℕ) (cert : Cert) → IsLeastValue certs least → 1 ≤ least → least < rate_used net least → IsFirstOf (λ value. value ≤ rate_used net least - 1) certs number
      → slice_get certs number ≡ Some cert → IsRateUnmet net number cert.side cert.value
  IsRateUnmet-first number least cert value some above is there = record {
    wanted = rate_used net least;
    is_wanted = some_wanted net.wanted least above;
    rate = least;
    is_rate = IsRate-least_value net certs least are value;
    some_rate = some;
    unmet = above;
    first = IsFirstWith-same net (λ size. size ≤ rate_used net least - 1) (λ size. size < rate_used net least) number cert.value (λ number size within has below. omega arith) (λ size below. omega arith)
        (IsFirstWith-first_of (λ value. value ≤ rate_used net least - 1) number cert is there);
    least_side = IsLeastSide-certificate number cert there;
  }

  -- where the rate of its codes is above 32, the first that has the least value
  pub IsRateOver-first : (number least : ℕ) → 32 < rate_used net least → rate_used net least ≤ least → IsLeastValue certs least → IsFirstOf (λ value. value ≤ least) certs number → IsRateOver net number least
  IsRateOver-first number least over within value is =
      let cert = is.has.0 in
      let rate = IsRate-least_value net certs least are value in
      let first = IsFirstWith-first_of (λ value. value ≤ least) number cert is is.has.1 in
      let same : cert.value ≡ least = omega (arith, first.holds, value.least number cert is.has.1) in
      record {
        none_wanted = none_wanted net.wanted least net.rate over;
        over = omega arith;
        rate = rate;
        first = subst (IsFirstWith net (λ size. size ≡ least) number) same
            (IsFirstWith-same net (λ size. size ≤ least) (λ size. size ≡ least) number cert.value (λ number size within has below. omega (arith, rate.least number size within has)) (λ size same. omega arith) first);
      }
