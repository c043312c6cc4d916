-- The flow that the used links of a residual network are, and how it gets one unit more.
use Rattle.std.specs.Prelude.{◌≡◌, ◌+◌, ℕ, suc, if◌then◌else◌, List, slice_set}
use Rattle.net_model.specs.Flows.{flow_network}
use Rattle.net_model.specs.Walks.{head_of, tail_of}
use Rattle.net_model.specs.declared.Link.{Link}
use Rattle.net_model.specs.declared.net.Net.{Net}
use Rattle.unit_flow.specs.Conservation.{IsConserved}
use Rattle.unit_flow.specs.Decomposition.{Taken, paths_of}
use Rattle.unit_flow.specs.Residual.{ResidualNetwork, is_used}
use Rattle.unit_flow.specs.Taking.{first_taken}
use Rattle.unit_flow.specs.declared.residual.LinkState.{LinkState}
use Rattle.unit_flow.specs.declared.residual.LinkState.TheVariants.{Free, Used}

-- the used links are a flow of so many units
abbrev pub HasValue : Net → ResidualNetwork → ℕ → Type 0
HasValue net residual value = IsConserved (flow_network net residual.demand) residual.states value

-- they are a flow of at least one unit
abbrev pub HasUnit : Net → ResidualNetwork → Type 0
HasUnit net residual = (value : ℕ) × HasValue net residual (suc value)

-- with these states of the links the flow has one unit more
abbrev pub IsAugmented : Net → ResidualNetwork → List LinkState → Type 0
IsAugmented net residual states =
    (value : ℕ) → HasValue net residual value
    → IsConserved (flow_network net residual.demand) states (value + 1)

-- the first path of the flow, and the states without it
abbrev pub taken_of : Net → ResidualNetwork → Taken
taken_of net residual = first_taken (flow_network net residual.demand) residual.states

-- the states of a residual network are those without the first path of another's flow
abbrev pub IsWithoutFirst : Net → ResidualNetwork → ResidualNetwork → Type 0
IsWithoutFirst net old new = new.states ≡ (taken_of net old).states

-- so many paths of the flow
abbrev pub flow_paths : Net → ResidualNetwork → ℕ → List (List ℕ)
flow_paths net residual value = paths_of (flow_network net residual.demand) value residual.states

-- the states where a link is turned: a used one is free then, and any other used
abbrev pub turned : List LinkState → ℕ → List LinkState
turned states link = slice_set states link (if is_used states link then Free else Used)

-- the node from which it could be passed
abbrev pub turned_from : List Link → List LinkState → ℕ → ℕ
turned_from links states link =
    if is_used states link then head_of links link else tail_of links link
