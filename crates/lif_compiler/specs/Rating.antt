-- Which certificate shows that a rate can't be had, and the rate of a network's codes.
use Rattle.std.specs.Prelude.{◌≡◌, ◌<◌, ◌≤◌, ℕ, List, Some, slice_get}
use Rattle.cut_witness.specs.Certificate.{IsLeastValue}
use Rattle.cut_witness.specs.declared.cert.Cert.{Cert}
use Rattle.failure_patterns.specs.Rate.{rate_used}
use Rattle.net_model.specs.declared.net.Net.{Net}

-- the first certificate of whose value this holds has this number
pub record IsFirstOf (P : ℕ → Type 0) (certs : List Cert) (number : ℕ) : Type 0 where
  pub has : (cert : Cert) × (slice_get certs number ≡ Some cert) × P cert.value
  pub first : (earlier : ℕ) (cert : Cert) → earlier < number → slice_get certs earlier ≡ Some cert → ¬ P cert.value

-- the rate of a network's codes, by the certificates of its demands: it is at most their least value
pub record IsRateUsed (net : Net) (certs : List Cert) (rate : ℕ) : Type 0 where
  pub least : ℕ
  pub is_least : IsLeastValue certs least
  pub used : rate ≡ rate_used net least
  pub within : rate ≤ least
