-- What follows of the rate of a network, and of the first demand with a size.
use Rattle.std.specs.Prelude.{◌≡◌, ◌≤◌, ℕ}
use Rattle.std.proofs.Common.{sym, ◌∙◌, subst, arith}
use Rattle.item_list.proofs.Numbers.{neither_below}
use Rattle.net_model.proofs.FlowLaws.{IsLeastCut-same_size}
use Rattle.net_model.specs.Flows.{flow_network}
use Rattle.net_model.specs.declared.net.Net.{Net}
use Rattle.failure_patterns.specs.Demands.{demand_of}
use Rattle.failure_patterns.specs.Rate.{HasLeastCut, IsFirstWith, IsRate}

-- a network has one rate
pub IsRate-unique : (net : Net) (rate other : ℕ) → IsRate net rate → IsRate net other → rate ≡ other
IsRate-unique net rate other one two =
    let below : rate ≤ other = one.least two.demand.0 other two.demand.1 two.demand.2 in
    let above : other ≤ rate = two.least one.demand.0 rate one.demand.1 one.demand.2 in
    omega arith

-- the least cuts of a demand have one size
pub HasLeastCut-unique : (net : Net) (number size other : ℕ) → HasLeastCut net number size → HasLeastCut net number other → size ≡ other
HasLeastCut-unique net number size other one two =
    sym one.2 ∙ IsLeastCut-same_size (flow_network net (demand_of net number)) one.0 two.0 one.1 two.1 ∙ two.2

-- there is one first demand with a size of which this holds, and one such size
pub IsFirstWith-unique : (net : Net) (P : ℕ → Type 0) (demand size demand' size' : ℕ) → IsFirstWith net P demand size → IsFirstWith net P demand' size' → (demand ≡ demand') × (size ≡ size')
IsFirstWith-unique net P demand size demand' size' one two =
    let same = neither_below demand demand' (λ before. two.first demand size before one.has one.holds) (λ before. one.first demand' size' before two.has two.holds) in
    let here : HasLeastCut net demand size' = subst (λ number. HasLeastCut net number size') (sym same) two.has in
    (same, HasLeastCut-unique net demand size size' one.has here)
