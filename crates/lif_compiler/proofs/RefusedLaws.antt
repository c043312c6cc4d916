-- What is refused of a network is one thing: the first demand with a least cut of a size, its least side, and the rate.
use Rattle.std.specs.Prelude.{◌≡◌, ◌<◌, ◌≤◌, ℕ, Bool, List, Option, None, unwrap_or}
use Rattle.std.proofs.Common.{sym, ap, subst, arith}
use Rattle.failure_patterns.specs.Demands.{demand_of}
use Rattle.failure_patterns.specs.Rate.{IsFirstWith, IsRate, rate_used}
use Rattle.failure_patterns.proofs.RateLaws.{IsFirstWith-unique, IsRate-unique}
use Rattle.lif_compiler.specs.Refused.{IsRateOver, IsRateUnmet, IsZeroRate}
use Rattle.net_model.proofs.FlowLaws.{IsLeastSide-unique}
use Rattle.net_model.specs.Flows.{IsLeastSide, flow_network}
use Rattle.net_model.specs.declared.net.Net.{Net}

-- a rate of 0 shows one demand and one side
pub IsZeroRate-unique : (net : Net) (demand other : ℕ) (side beside : List Bool) → IsZeroRate net demand side → IsZeroRate net other beside → (demand ≡ other) × (side ≡ beside)
IsZeroRate-unique net demand other side beside one two =
    let same = (IsFirstWith-unique net (λ size. size ≡ 0) demand 0 other 0 one.first two.first).0 in
    let there : IsLeastSide (flow_network net (demand_of net demand)) beside = subst (λ d. IsLeastSide (flow_network net (demand_of net d)) beside) (sym same) two.least_side in
    (same, IsLeastSide-unique (flow_network net (demand_of net demand)) side beside one.least_side there)

-- a wanted rate that isn't met shows one demand, one side and one size
pub IsRateUnmet-unique : (net : Net) (demand other : ℕ) (side beside : List Bool) (least below : ℕ) → IsRateUnmet net demand side least → IsRateUnmet net other beside below → (demand ≡ other) × (side ≡ beside) × (least ≡ below)
IsRateUnmet-unique net demand other side beside least below one two =
    let same : two.wanted ≡ one.wanted = cc (one.is_wanted, two.is_wanted) in
    let there : IsFirstWith net (λ size. size < one.wanted) other below = subst (λ wanted. IsFirstWith net (λ size. size < wanted) other below) same two.first in
    let first = IsFirstWith-unique net (λ size. size < one.wanted) demand least other below one.first there in
    let side_there : IsLeastSide (flow_network net (demand_of net demand)) beside = subst (λ d. IsLeastSide (flow_network net (demand_of net d)) beside) (sym first.0) two.least_side in
    (first.0, IsLeastSide-unique (flow_network net (demand_of net demand)) side beside one.least_side side_there, first.1)

-- a rate above 32 shows one demand, and is one
pub IsRateOver-unique : (net : Net) (demand other least beside : ℕ) → IsRateOver net demand least → IsRateOver net other beside → (demand ≡ other) × (least ≡ beside)
IsRateOver-unique net demand other least beside one two =
    let same = IsRate-unique net least beside one.rate two.rate in
    let there : IsFirstWith net (λ size. size ≡ least) other least = subst (λ wanted. IsFirstWith net (λ size. size ≡ wanted) other wanted) (sym same) two.first in
    ((IsFirstWith-unique net (λ size. size ≡ least) demand least other least one.first there).0, same)

-- where the rate is 0, none is greater
pub IsZeroRate-only : (net : Net) (rate demand : ℕ) (side : List Bool) → IsRate net rate → 0 < rate → IsZeroRate net demand side → ⊥
IsZeroRate-only net rate demand side is some zero =
    let none : rate ≤ 0 = is.least demand 0 zero.first.within zero.first.has in
    absurd (omega arith)

-- a wanted rate that isn't met is above the network's
pub IsRateUnmet-above : (net : Net) (rate demand least : ℕ) (side : List Bool) → IsRate net rate → IsRateUnmet net demand side least → rate < rate_used net rate
IsRateUnmet-above net rate demand least side is unmet =
    let same = IsRate-unique net rate unmet.rate is unmet.is_rate in
    let used : rate_used net rate ≡ unmet.wanted = ap (λ (wanted : Option ℕ). unwrap_or wanted rate) unmet.is_wanted in
    omega (arith, same, used, unmet.unmet)

-- a rate of codes that is refused for its height is above 32
pub IsRateOver-above : (net : Net) (rate demand least : ℕ) → IsRate net rate → IsRateOver net demand least → 32 < rate_used net rate
IsRateOver-above net rate demand least is over =
    let same = IsRate-unique net rate least is over.rate in
    let used : rate_used net rate ≡ rate = ap (λ (wanted : Option ℕ). unwrap_or wanted rate) over.none_wanted in
    omega (arith, same, used, over.over)

-- where no rate is wanted, none is unmet
pub IsRateUnmet-only : (net : Net) (demand least : ℕ) (side : List Bool) → net.wanted ≡ None → IsRateUnmet net demand side least → ⊥
IsRateUnmet-only net demand least side none unmet =
    let some = unmet.is_wanted in
    absurd cc

-- where the rate is 0, that is refused, and no unmet rate
pub IsZeroRate-not_unmet : (net : Net) (demand other least : ℕ) (side beside : List Bool) → IsZeroRate net demand side → IsRateUnmet net other beside least → ⊥
IsZeroRate-not_unmet net demand other least side beside zero unmet = IsZeroRate-only net unmet.rate demand side unmet.is_rate (omega (arith, unmet.some_rate)) zero

-- and so where it is above 32
pub IsRateOver-not_unmet : (net : Net) (demand other least below : ℕ) (side : List Bool) → IsRateOver net demand least → IsRateUnmet net other side below → ⊥
IsRateOver-not_unmet net demand other least below side over unmet = IsRateUnmet-only net other below side over.none_wanted unmet
