-- The flow from which another to the same sink is begun.
use Rattle.std.specs.Prelude.{ℕ, Bool, not, ◌&&◌, ◌==◌, List}
use Rattle.std.specs.List.{list_all}
use Rattle.net_model.specs.Flows.{FlowNetwork, IsFlow, flow_network}
use Rattle.net_model.specs.Walks.{head_of, tail_of}
use Rattle.net_model.specs.declared.Demand.{Demand}
use Rattle.net_model.specs.declared.net.Net.{Net}
use Rattle.unit_flow.specs.Residual.{is_free}
use Rattle.unit_flow.specs.declared.residual.LinkState.{LinkState}

-- the paths are a flow to the sink of a demand, under some pattern
abbrev pub IsFlowToSink : Net → Demand → List (List ℕ) → Type 0
IsFlowToSink net demand paths =
    (pattern : ℕ)
    × IsFlow (flow_network net (record { sink = demand.sink; pattern = pattern })) paths

-- a link is free, and neither leads into the source nor leaves the sink
abbrev pub is_open : FlowNetwork → List LinkState → ℕ → Bool
is_open network states link =
    (is_free states link && not (head_of network.links link == network.source))
    && not (tail_of network.links link == network.sink)

-- each link of a path is
abbrev pub is_open_path : FlowNetwork → List LinkState → List ℕ → Bool
is_open_path network states path = list_all (is_open network states) path
