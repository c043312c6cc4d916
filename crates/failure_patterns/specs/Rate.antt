-- The rate of a network: the least size of a least cut, over its demands; the rate of its codes; and the first demand
-- with such a size.
use Rattle.std.specs.Prelude.{◌≡◌, ◌<◌, ◌≤◌, ℕ, List, length, unwrap_or}
use Rattle.net_model.specs.Demands.{demand_count}
use Rattle.net_model.specs.Flows.{IsLeastCut, flow_network}
use Rattle.net_model.specs.declared.net.Net.{Net}
use Rattle.failure_patterns.specs.Demands.{demand_of}

-- a demand of the network has a least cut of so many links
abbrev pub HasLeastCut : Net → ℕ → ℕ → Type 0
HasLeastCut net number size = (cut : List ℕ) × IsLeastCut (flow_network net (demand_of net number)) cut × (length cut ≡ size)

-- the rate of a network's codes: the one that is wanted, and else that of the network
abbrev pub rate_used : Net → ℕ → ℕ
rate_used net rate = unwrap_or net.wanted rate

-- some demand has a least cut of that size, and none has a smaller one
pub record IsRate (net : Net) (rate : ℕ) : Type 0 where
  pub demand : (number : ℕ) × (number < demand_count net) × HasLeastCut net number rate
  pub least : (number size : ℕ) → number < demand_count net → HasLeastCut net number size → rate ≤ size

-- the first demand whose least cut has a size of which this holds, and that size
pub record IsFirstWith (net : Net) (P : ℕ → Type 0) (demand size : ℕ) : Type 0 where
  pub within : demand < demand_count net
  pub has : HasLeastCut net demand size
  pub holds : P size
  pub first : (earlier other : ℕ) → earlier < demand → HasLeastCut net earlier other → ¬ P other
