-- The rate of a code beside the cuts of its demands.
use Rattle.std.specs.Prelude.{ℕ, ◌<◌, ◌≤◌, List, length}
use Rattle.failure_patterns.specs.Demands.{demand_of}
use Rattle.net_model.specs.Demands.{demand_count}
use Rattle.net_model.specs.Flows.{flow_network, IsCut}
use Rattle.net_model.specs.declared.net.Net.{Net}

-- a rate is at most the number of links of each cut of each demand
abbrev pub IsWithinCuts : Net → ℕ → Type 0
IsWithinCuts net rate = (demand : ℕ) → demand < demand_count net → (cut : List ℕ) → IsCut (flow_network net (demand_of net demand)) cut → rate ≤ length cut
