-- The least value of the certificates that were gone through so far.
use Rattle.std.specs.Prelude.{◌≡◌, ◌<◌, ◌≤◌, ℕ, min, ◌+◌, List, Some, length, slice_get}
use Rattle.std.proofs.Common.{ap, subst, refl, get_or, inl, inr, arith}
use Rattle.std.proofs.lemmas.Bool.{cases_lt}
use Rattle.std.proofs.lemmas.Option.{slice_get_read, slice_get_within}
use Rattle.cut_witness.specs.Certificate.{IsLeastValue}
use Rattle.cut_witness.specs.declared.cert.Cert.{Cert}

-- some certificate has that value, and none of the first so many has a smaller one
pub record IsLeastAmong (certs : List Cert) (count value : ℕ) : Type 0 where
  pub attained : (number : ℕ) × (cert : Cert) × (slice_get certs number ≡ Some cert) × (cert.value ≡ value)
  pub least : (number : ℕ) (cert : Cert) → number < count → slice_get certs number ≡ Some cert → value ≤ cert.value

-- that of one certificate more
pub least_more : (certs : List Cert) (count value less : ℕ) (cert : Cert) → count < length certs → cert ≡ get_or certs count cert → less ≡ min value cert.value → IsLeastAmong certs count value
    → IsLeastAmong certs (count + 1) less
least_more certs count value less cert within here lesser is =
    let found : slice_get certs count ≡ Some cert = slice_get_read certs (length certs) count cert refl within here in
    record {
      attained = elim (cases_lt cert.value value) [
        | inl above ↦ (count, cert, found, omega arith)
        | inr below ↦ (is.attained.0, is.attained.1, is.attained.2, omega (arith, is.attained.3))
      ];
      least = λ number one before at. elim (cases_lt number count) [
        | inl earlier ↦ omega (arith, is.least number one earlier at)
        | inr later ↦
            let Found : ℕ → Type 0 = λ place. slice_get certs place ≡ Some one in
            let last : number ≡ count = omega arith in
            let at_last = subst Found last at in
            let one_is : one ≡ cert = cc in
            omega (arith, ap (λ (some : Cert). some.value) one_is)
      ];
    }

-- that of all certificates
pub least_of_all : (certs : List Cert) (count value : ℕ) → length certs ≤ count → IsLeastAmong certs count value → IsLeastValue certs value
least_of_all certs count value all is = record {
  attained = is.attained;
  least = λ number cert found. is.least number cert (omega (arith, slice_get_within certs number cert found)) found;
}
