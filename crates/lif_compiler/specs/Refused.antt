-- Which networks aren't compiled, and what the refusal says.
use Rattle.std.specs.Prelude.{◌≡◌, ◌<◌, ◌≤◌, ℕ, List, Bool, Some, None}
use Rattle.net_model.specs.Demands.{demand_count}
use Rattle.net_model.specs.Flows.{IsLeastSide, flow_network}
use Rattle.net_model.specs.Limits.{highest_rate}
use Rattle.net_model.specs.Walks.{IsAcyclic}
use Rattle.net_model.specs.declared.net.Net.{Net}
use Rattle.failure_patterns.specs.Demands.{demand_of}
use Rattle.failure_patterns.specs.Rate.{IsFirstWith, IsRate}
use Rattle.topo_order.specs.Order.{IsShownCycle}
use Rattle.topo_order.specs.declared.refusal.OrderRefusal.{OrderRefusal}
use Rattle.topo_order.specs.declared.refusal.OrderRefusal.TheVariants as of_links
use Rattle.lif_compiler.specs.declared.refusal.CompileRefusal.{CompileRefusal}
use Rattle.lif_compiler.specs.declared.refusal.CompileRefusal.TheVariants.{Cyclic, TooManyDemands, ZeroRate, RateUnmet, RateOver, OutOfMemory}

-- the refusal of a network whose links have no order
abbrev pub of_order : OrderRefusal → CompileRefusal
of_order (of_links.Cyclic links) = Cyclic links
of_order of_links.OutOfMemory = OutOfMemory

-- the network has no cycle, and at most so many demands
pub record IsServed (net : Net) (most : ℕ) : Type 0 where
  pub acyclic : IsAcyclic net.links
  pub served : demand_count net ≤ most

-- the rate is 0: the first demand that shows it, and its least side
pub record IsZeroRate (net : Net) (demand : ℕ) (side : List Bool) : Type 0 where
  pub first : IsFirstWith net (λ size. size ≡ 0) demand 0
  pub least_side : IsLeastSide (flow_network net (demand_of net demand)) side

-- a rate is wanted that is above the network's, which isn't 0: the first demand whose least cut is below the wanted
-- rate, its least side and that cut's size
pub record IsRateUnmet (net : Net) (demand : ℕ) (side : List Bool) (least : ℕ) : Type 0 where
  pub wanted : ℕ
  pub is_wanted : net.wanted ≡ Some wanted
  pub rate : ℕ
  pub is_rate : IsRate net rate
  pub some_rate : 1 ≤ rate
  pub unmet : rate < wanted
  pub first : IsFirstWith net (λ size. size < wanted) demand least
  pub least_side : IsLeastSide (flow_network net (demand_of net demand)) side

-- no rate is wanted, and that of the network is above 32: the first demand that shows it, and its least cut's size
pub record IsRateOver (net : Net) (demand least : ℕ) : Type 0 where
  pub none_wanted : net.wanted ≡ None
  pub over : highest_rate < least
  pub rate : IsRate net least
  pub first : IsFirstWith net (λ size. size ≡ least) demand least

-- what a refusal for its rate says of a network; no other kind of refusal is one
abbrev pub IsBadRate : Net → CompileRefusal → Type 0
IsBadRate net (Cyclic links) = ⊥
IsBadRate net (TooManyDemands count) = ⊥
IsBadRate net (ZeroRate demand side) = IsZeroRate net demand side
IsBadRate net (RateUnmet demand side least) = IsRateUnmet net demand side least
IsBadRate net (RateOver demand least) = IsRateOver net demand least
IsBadRate net OutOfMemory = Unit {0}

-- what each refusal says of a network, for a field with so many elements
abbrev pub IsRefusal : Net → ℕ → CompileRefusal → Type 0
IsRefusal net size (Cyclic links) = IsShownCycle net.links links
IsRefusal net size (TooManyDemands count) =
    IsAcyclic net.links × (size < demand_count net) × (count ≡ demand_count net)
IsRefusal net size (ZeroRate demand side) = IsServed net size × IsZeroRate net demand side
IsRefusal net size (RateUnmet demand side least) = IsServed net size × IsRateUnmet net demand side least
IsRefusal net size (RateOver demand least) = IsServed net size × IsRateOver net demand least
IsRefusal net size OutOfMemory = Unit {0}
