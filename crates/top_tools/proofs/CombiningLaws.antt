-- A combination network has a code: nothing but want of memory keeps it from being compiled.
use Rattle.std.specs.Prelude.{◌≡◌, ◌⊎◌, ◌≤◌, ℕ, true, nat_le, List, Option, None, Some, unwrap_or, if◌then◌else◌}
use Rattle.std.proofs.Common.{refl, sym, ap, subst, ◌∙◌, inl, inr, arith}
use Rattle.std.proofs.lemmas.Bool.{cases_Bool, le-leb, leb-true}
use Rattle.cut_witness.proofs.CertificateLaws.{IsRate-least_value}
use Rattle.cut_witness.specs.declared.cert.Cert.{Cert}
use Rattle.failure_patterns.proofs.RateLaws.{IsRate-unique}
use Rattle.failure_patterns.specs.UsedField.{used_field}
use Rattle.gf_tables.specs.declared.kind.FieldKind.{FieldKind}
use Rattle.lif_compiler.proofs.RefusedLaws.{IsRateUnmet-only, IsZeroRate-only}
use Rattle.lif_compiler.specs.Compiled.{IsCompiled}
use Rattle.lif_compiler.specs.Refused.{IsRefusal}
use Rattle.lif_compiler.specs.declared.refusal.CompileRefusal.{CompileRefusal}
use Rattle.lif_compiler.specs.declared.refusal.CompileRefusal.TheVariants.{Cyclic, TooManyDemands, ZeroRate, RateUnmet, RateOver, OutOfMemory}
use Rattle.net_maker.proofs.CombinationLaws.{combination-acyclic, combination-demands, combination-rate}
use Rattle.net_maker.specs.Combination.{IsCombination}
use Rattle.net_maker.specs.Fits.{Fits}
use Rattle.net_model.specs.Demands.{demand_count}
use Rattle.net_model.specs.declared.net.FieldChoice.TheVariants.{Eight, Sixteen}
use Rattle.net_model.specs.declared.net.Net.{Net}
use Rattle.node_program.specs.declared.code.Code.{Code}
use Rattle.top_tools.specs.Combining.{HasRate, IsCombinationCode}
use Rattle.top_tools.specs.Compile.Made.{IsServedBy}

-- of a network that has a rate, and few demands, only want of memory is refused
pub only-memory : (net : Net) (size rate : ℕ) → HasRate net rate → demand_count net ≤ size → (why : CompileRefusal) → IsRefusal net size why → why ≡ OutOfMemory
only-memory net size rate has few (Cyclic links) shown = absurd (has.acyclic links shown.is_cycle)
only-memory net size rate has few (TooManyDemands count) crowded = absurd (omega (arith, few, crowded.1))
only-memory net size rate has few (ZeroRate demand side) zero = absurd (IsZeroRate-only net rate demand side has.is_rate (omega (arith, has.some_rate)) zero.1)
only-memory net size rate has few (RateUnmet demand side least) unmet = absurd (IsRateUnmet-only net demand least side has.no_wanted unmet.1)
only-memory net size rate has few (RateOver demand least) over = absurd (omega (arith, has.low_rate, over.1.over, IsRate-unique net rate least has.is_rate over.1.rate))
only-memory net size rate has few OutOfMemory lost = refl

module _ (n k : ℕ) (fits : Fits n k) (net : Net) (is : IsCombination n k net) where
  pub combination-good : HasRate net k
  combination-good = record {
    no_wanted = is.wanted;
    acyclic = combination-acyclic n k fits net is;
    is_rate = combination-rate n k fits net is;
    some_rate = fits.some;
    low_rate = fits.rate;
  }

  -- a field serves its demands
  few : demand_count net ≤ 65536
  few = omega (arith, combination-demands n k fits net is, fits.nodes)

  pub field-used : ((used_field net.field (demand_count net) ≡ Some Eight) × (demand_count net ≤ 256)) ⊎ (used_field net.field (demand_count net) ≡ Some Sixteen)
  field-used =
      let d = demand_count net in
      let any = ap (λ choice. used_field choice d) is.field in
      let all : nat_le d 65536 ≡ true = le-leb d 65536 few in
      elim (cases_Bool (nat_le d 256)) [
        | inl octet ↦ inl (any ∙ ap (λ b. if b then Some Eight else (if nat_le d 65536 then Some Sixteen else None)) octet, leb-true d 256 octet)
        | inr more ↦ inr (any ∙ ap (λ b. if b then Some Eight else (if nat_le d 65536 then Some Sixteen else None)) more ∙ ap (λ b. if b then Some Sixteen else None) all)
      ]

  pub demands-few : demand_count net ≤ 65536
  demands-few = few

  -- what is compiled of it
  pub of-combination : (field : FieldKind) (code : Code) → IsServedBy net field → (certs : List Cert) → IsCompiled net field code certs → IsCombinationCode n k code
  of-combination field code served certs compiled = record {
    net = net;
    combination = is;
    served = subst (IsServedBy net) (sym compiled.over) served;
    certs = certs;
    compiled = subst (λ kind. IsCompiled net kind code certs) (sym compiled.over) compiled;
    rate = compiled.rate ∙ ap (λ (wanted : Option ℕ). unwrap_or wanted compiled.least) is.wanted ∙ IsRate-unique net compiled.least k (IsRate-least_value net certs compiled.least compiled.certified compiled.is_least) (combination-rate n k fits net is);
  }
