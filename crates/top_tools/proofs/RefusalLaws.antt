-- What is due of a network is one status.
use Rattle.std.specs.Prelude.{◌≡◌, ℕ, Bool, List}
use Rattle.std.proofs.Common.{refl, sym, ap, ◌∙◌, arith}
use Rattle.std.proofs.lemmas.Bool.{false≢true}
use Rattle.gf_tables.specs.declared.kind.FieldKind.{FieldKind}
use Rattle.lif_compiler.specs.Refused.{IsRateOver, IsRateUnmet, IsZeroRate}
use Rattle.lif_compiler.proofs.RefusedLaws.{IsRateOver-above, IsRateOver-not_unmet, IsRateOver-unique, IsRateUnmet-above, IsRateUnmet-unique, IsZeroRate-not_unmet, IsZeroRate-only, IsZeroRate-unique}
use Rattle.net_model.specs.Demands.{demand_count}
use Rattle.net_model.specs.declared.net.Net.{Net}
use Rattle.top_base.specs.declared.status.Status.{Status}
use Rattle.top_base.specs.declared.status.Status.TheVariants.{Done, RateOver, RateUnmet, TooManyDemands, ZeroRate}
use Rattle.top_tools.specs.Compile.Made.{IsGood, IsServedBy, RefusesMaking}

-- what is due of a network
abbrev pub Due : Net → Status → List ℕ → Type 0
Due net Done line = IsGood net line
Due net status line = RefusesMaking net status line

module _ (net : Net) where
  -- the number of demands that is said is theirs
  counted : (count : ℕ) (line : List ℕ) → RefusesMaking net (TooManyDemands count) line → TooManyDemands count ≡ TooManyDemands (demand_count net)
  counted count line crowded = ap (λ outcome. outcome.status) crowded.1

  -- no field serves the demands where there are too many
  crowded_served : (count : ℕ) (line : List ℕ) (field : FieldKind) → RefusesMaking net (TooManyDemands count) line → IsServedBy net field → ⊥
  crowded_served count line field crowded served =
      let none = crowded.0 in
      let some = served in
      absurd (false≢true (cc))

  zero_over : (demand other least : ℕ) (side : List Bool) → IsZeroRate net demand side → IsRateOver net other least → ⊥
  zero_over demand other least side zero over = IsZeroRate-only net least demand side over.rate (omega (arith, over.over)) zero

  good_zero : (line : List ℕ) (demand : ℕ) (side : List Bool) → IsGood net line → IsZeroRate net demand side → ⊥
  good_zero line demand side good zero = IsZeroRate-only net good.rate demand side good.is_rate (omega (arith, good.some_rate)) zero

  good_over : (line : List ℕ) (demand least : ℕ) → IsGood net line → IsRateOver net demand least → ⊥
  good_over line demand least good over = absurd (omega (arith, good.low_rate, IsRateOver-above net good.rate demand least good.is_rate over))

  good_unmet : (line : List ℕ) (demand least : ℕ) (side : List Bool) → IsGood net line → IsRateUnmet net demand side least → ⊥
  good_unmet line demand least side good unmet = absurd (omega (arith, good.met, IsRateUnmet-above net good.rate demand least side good.is_rate unmet))

  -- one status is due
  pub same_due : (status : Status) (line : List ℕ) (status' : Status) (line' : List ℕ) → Due net status line → Due net status' line' → status ≡ status'
  same_due Done line Done line' due due' = refl
  same_due Done line (TooManyDemands count) line' due due' = absurd (crowded_served count line' due.field due' due.served)
  same_due Done line (ZeroRate demand side) line' due due' = absurd (good_zero line demand side due due'.2)
  same_due Done line (RateUnmet demand side least) line' due due' = absurd (good_unmet line demand least side due due'.2)
  same_due Done line (RateOver demand least) line' due due' = absurd (good_over line demand least due due'.2)
  same_due Done line status' line' due due' = absurd due'
  same_due (TooManyDemands count) line Done line' due due' = absurd (crowded_served count line due'.field due due'.served)
  same_due (TooManyDemands count) line (TooManyDemands count') line' due due' = counted count line due ∙ sym (counted count' line' due')
  same_due (TooManyDemands count) line (ZeroRate demand side) line' due due' = absurd (crowded_served count line due'.0 due due'.1)
  same_due (TooManyDemands count) line (RateUnmet demand side least) line' due due' = absurd (crowded_served count line due'.0 due due'.1)
  same_due (TooManyDemands count) line (RateOver demand least) line' due due' = absurd (crowded_served count line due'.0 due due'.1)
  same_due (TooManyDemands count) line status' line' due due' = absurd due'
  same_due (ZeroRate demand side) line Done line' due due' = absurd (good_zero line' demand side due' due.2)
  same_due (ZeroRate demand side) line (TooManyDemands count) line' due due' = absurd (crowded_served count line' due.0 due' due.1)
  same_due (ZeroRate demand side) line (ZeroRate demand' side') line' due due' =
      let same = IsZeroRate-unique net demand demand' side side' due.2 due'.2 in
      ap (λ d. ZeroRate d side) same.0 ∙ ap (λ (s : List Bool). ZeroRate demand' s) same.1
  same_due (ZeroRate demand side) line (RateUnmet demand' side' least) line' due due' = absurd (IsZeroRate-not_unmet net demand demand' least side side' due.2 due'.2)
  same_due (ZeroRate demand side) line (RateOver demand' least) line' due due' = absurd (zero_over demand demand' least side due.2 due'.2)
  same_due (ZeroRate demand side) line status' line' due due' = absurd due'
  same_due (RateUnmet demand side least) line Done line' due due' = absurd (good_unmet line' demand least side due' due.2)
  same_due (RateUnmet demand side least) line (TooManyDemands count) line' due due' = absurd (crowded_served count line' due.0 due' due.1)
  same_due (RateUnmet demand side least) line (ZeroRate demand' side') line' due due' = absurd (IsZeroRate-not_unmet net demand' demand least side' side due'.2 due.2)
  same_due (RateUnmet demand side least) line (RateUnmet demand' side' least') line' due due' =
      let same = IsRateUnmet-unique net demand demand' side side' least least' due.2 due'.2 in
      ap (λ d. RateUnmet d side least) same.0 ∙ ap (λ (s : List Bool). RateUnmet demand' s least) same.1 ∙ ap (λ size. RateUnmet demand' side' size) same.2
  same_due (RateUnmet demand side least) line (RateOver demand' size) line' due due' = absurd (IsRateOver-not_unmet net demand' demand size least side due'.2 due.2)
  same_due (RateUnmet demand side least) line status' line' due due' = absurd due'
  same_due (RateOver demand least) line Done line' due due' = absurd (good_over line' demand least due' due.2)
  same_due (RateOver demand least) line (TooManyDemands count) line' due due' = absurd (crowded_served count line' due.0 due' due.1)
  same_due (RateOver demand least) line (ZeroRate demand' side) line' due due' = absurd (zero_over demand' demand least side due'.2 due.2)
  same_due (RateOver demand least) line (RateUnmet demand' side' least') line' due due' = absurd (IsRateOver-not_unmet net demand demand' least least' side' due.2 due'.2)
  same_due (RateOver demand least) line (RateOver demand' least') line' due due' =
      let same = IsRateOver-unique net demand demand' least least' due.2 due'.2 in
      ap (λ d. RateOver d least) same.0 ∙ ap (λ size. RateOver demand' size) same.1
  same_due (RateOver demand least) line status' line' due due' = absurd due'
  same_due status line status' line' due due' = absurd due
