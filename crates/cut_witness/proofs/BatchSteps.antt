-- The certificates of batches.
use Rattle.std.specs.Prelude.{◌≡◌, ◌<◌, ℕ, zero, suc, ◌+◌, List, [], Some, ◌∷◌, ◌++◌, length, slice_get, Result, Ok, Vec}
use Rattle.std.specs.Global.{Global}
use Rattle.std.specs.declared.alloc.AllocError.{AllocError}
use Rattle.std.proofs.Common.{sym, ◌∙◌, ap, subst, arith}
use Rattle.std.proofs.lemmas.List.{length-append}
use Rattle.net_model.specs.Demands.{demand_count}
use Rattle.net_model.specs.declared.net.Net.{Net}
use Rattle.failure_patterns.proofs.BatchLaws.{AreThrough, batch_first, batch_last, through_last, through_more, through_next, through_none}
use Rattle.failure_patterns.specs.Batches.{batch_start}
use Rattle.failure_patterns.specs.Demands.{demand_of}
use Rattle.cut_witness.specs.Certificate.{AreBatches, AreCertificates, AreCertificatesFrom, IsCertificate}
use Rattle.cut_witness.proofs.CertificateLaws.{AreCertificatesFrom-append}
use Rattle.cut_witness.specs.declared.cert.Cert.{Cert}

-- that of one demand
one_alone : (net : Net) (number : ℕ) (cert : Cert) → IsCertificate net cert → cert.demand ≡ demand_of net number → AreCertificatesFrom net number (cert ∷ [])
one_alone net number cert is same = record { at = λ place one found. first place one found }
  where
    first : (place : ℕ) (one : Cert) → slice_get (cert ∷ []) place ≡ Some one → IsCertificate net one × (one.demand ≡ demand_of net (number + place))
    first zero one found =
        let this : cert ≡ one = cc in
        let here : number ≡ number + 0 = omega arith in
        let Is : Cert → Type 0 = λ some. IsCertificate net some × (some.demand ≡ demand_of net (number + 0)) in
        subst Is this (is, same ∙ ap (demand_of net) here)
    first (suc place) one found = absurd cc

-- the certificates from one number on and below another
pub record AreBetween (net : Net) (from to : ℕ) (certs : List Cert) : Type 0 where
  pub count : from + length certs ≡ to
  pub are : AreCertificatesFrom net from certs

-- the certificate of one more demand
pub one_more : (net : Net) (from number : ℕ) (certs more : List Cert) (cert : Cert) → AreBetween net from number certs → IsCertificate net cert → cert.demand ≡ demand_of net number → more ≡ certs ++ cert ∷ []
    → AreBetween net from (number + 1) more
one_more net from number certs more cert are is same added = record {
  count = omega (arith, are.count, ap length added, length-append certs (cert ∷ []));
  are = subst (AreCertificatesFrom net from) (sym added) (AreCertificatesFrom-append net from number certs (cert ∷ []) are.count are.are (one_alone net number cert is same));
}

-- the certificates of one more batch
pub batch_more : (net : Net) (from to : ℕ) (certs made more : List Cert) → AreBetween net 0 from certs → from + length made ≡ to → AreCertificatesFrom net from made → more ≡ certs ++ made → AreBetween net 0 to more
batch_more net from to certs made more are count are_made joined = record {
  count = omega (arith, are.count, count, ap length joined, length-append certs made);
  are = subst (AreCertificatesFrom net 0) (sym joined) (AreCertificatesFrom-append net 0 from certs made are.count are.are are_made);
}

-- after the last batch there are those of all demands
pub all_batches : (net : Net) (batches batch : ℕ) (certs : List Cert) → 0 < batches → batch ≡ batches → AreBetween net 0 (batch_start batch batches (demand_count net)) certs → AreCertificates net certs
all_batches net batches batch certs some last are =
    let whole : 0 + length certs ≡ demand_count net = are.count ∙ ap (λ j. batch_start j batches (demand_count net)) last ∙ batch_last batches (demand_count net) some in
    record { each_demand = omega arith; are = are.are }

-- the certificates of the first batches, and what was made of the rest
pub record AreJoined (net : Net) (batches : ℕ) (made front rest : List (Result (Vec Cert Global) AllocError)) (left : ℕ) (certs : List Cert) : Type 0 where
  pub through : AreThrough batches made front rest left
  pub between : AreBetween net 0 (batch_start (length front) batches (demand_count net)) certs

-- none yet
pub joined_none : (net : Net) (batches : ℕ) (made rest : List (Result (Vec Cert Global) AllocError)) (left : ℕ) (certs : List Cert) → rest ≡ made → left ≡ batches → certs ≡ []
    → AreJoined net batches made [] rest left certs
joined_none net batches made rest left certs same all none =
    let first = batch_first batches (demand_count net) in
    let Between : List Cert → Type 0 = λ some. AreBetween net 0 (batch_start 0 batches (demand_count net)) some in
    let empty : Between [] = record { count = omega (arith, first); are = record { at = λ place cert found. absurd cc } } in
    record { through = through_none batches made rest left same all; between = subst Between (sym none) empty }

-- one batch more
pub joined_more : (net : Net) (batches : ℕ) (made front rest further : List (Result (Vec Cert Global) AllocError)) (left fewer : ℕ) (one : Result (Vec Cert Global) AllocError) (batch : Vec Cert Global)
    (certs more : List Cert) → AreJoined net batches made front rest left certs → AreBatches net batches made → rest ≡ one ∷ further → fewer + 1 ≡ left → one ≡ Ok batch → more ≡ certs ++ batch.items
    → AreJoined net batches made (front ++ one ∷ []) further fewer more
joined_more net batches made front rest further left fewer one batch certs more are each next less good joined =
    let Found : Result (Vec Cert Global) AllocError → Type 0 = λ r. slice_get made (length front) ≡ Some r in
    let here : Found one = through_next batches made front rest further left fewer one are.through next in
    let is = each (length front) batch (subst Found good here) in
    let longer : length (front ++ one ∷ []) ≡ length front + 1 = length-append front (one ∷ []) in
    let Between : ℕ → Type 0 = λ n. AreBetween net 0 (batch_start n batches (demand_count net)) more in
    let from = batch_start (length front) batches (demand_count net) in
    let to = batch_start (length front + 1) batches (demand_count net) in
    record {
      through = through_more batches made front rest further left fewer one are.through next less;
      between = subst Between (sym longer) (batch_more net from to certs batch.items more are.between is.count is.are joined);
    }

-- all batches
pub all_joined : (net : Net) (batches : ℕ) (made front rest : List (Result (Vec Cert Global) AllocError)) (left : ℕ) (certs : List Cert) → 0 < batches → AreJoined net batches made front rest left certs → left ≡ 0
    → AreCertificates net certs
all_joined net batches made front rest left certs some are none =
    all_batches net batches (length front) certs some (through_last batches made front rest left are.through none) are.between
