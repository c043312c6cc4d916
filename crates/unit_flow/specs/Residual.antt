-- Residual networks: which links may be passed, from which of their ends.
use Rattle.std.specs.Prelude.{◌≡◌, ◌<◌, ℕ, Bool, true, false, ◌&&◌, ◌==◌, if◌then◌else◌, List, length, slice_get, Option, Some, None}
use Rattle.std.specs.Option.{option_map_or}
use Rattle.net_model.specs.Flows.{FlowNetwork, flow_network, is_on}
use Rattle.net_model.specs.Lists.{is_among}
use Rattle.net_model.specs.Walks.{head_of, tail_of}
use Rattle.net_model.specs.declared.Demand.{Demand}
use Rattle.net_model.specs.declared.Link.{Link}
use Rattle.net_model.specs.declared.net.Net.{Net}
use Rattle.unit_flow.specs.declared.residual.LinkState.{LinkState}
use Rattle.unit_flow.specs.declared.residual.LinkState.TheVariants.{Free, Used, Failed}

-- a demand, and of each link whether it is free, used or failed
pub record ResidualNetwork : Type 0 where
  pub demand : Demand
  pub states : List LinkState

abbrev pub is_free_state : LinkState → Bool
is_free_state Free = true
is_free_state Used = false
is_free_state Failed = false

abbrev pub is_used_state : LinkState → Bool
is_used_state Free = false
is_used_state Used = true
is_used_state Failed = false

abbrev pub is_failed_state : LinkState → Bool
is_failed_state Free = false
is_failed_state Used = false
is_failed_state Failed = true

-- a link is free, used or failed
abbrev pub is_free : List LinkState → ℕ → Bool
is_free states link = option_map_or is_free_state (slice_get states link) false

abbrev pub is_used : List LinkState → ℕ → Bool
is_used states link = option_map_or is_used_state (slice_get states link) false

abbrev pub is_failed : List LinkState → ℕ → Bool
is_failed states link = option_map_or is_failed_state (slice_get states link) false

-- the node that a link leads to when it is passed from a node: a free link from its tail, a used
-- one from its head
abbrev pub passage : List Link → List LinkState → ℕ → ℕ → Option ℕ
passage links states link from =
    if is_free states link && (from == tail_of links link) then Some (head_of links link)
    else
    (if is_used states link && (from == head_of links link) then Some (tail_of links link)
    else None)

-- the states are those of a flow network's links: failed are those that failed
pub record AreStates (network : FlowNetwork) (states : List LinkState) : Type 0 where
  pub each_link : length states ≡ length network.links
  pub failed : (link : ℕ) → link < length network.links
      → is_failed states link ≡ is_among network.failed link

-- the states of a residual network are those of the links under a demand
abbrev pub HasStates : Net → Demand → ResidualNetwork → Type 0
HasStates net demand residual = AreStates (flow_network net demand) residual.states

-- marks for each node, where each node that a used link leads into is marked
pub record AreEntered (links : List Link) (nodes : ℕ) (states : List LinkState)
    (entered : List Bool) : Type 0 where
  pub each_node : length entered ≡ nodes
  pub marked : (link : ℕ) → is_used states link ≡ true → is_on entered (head_of links link) ≡ true

-- no link is used
abbrev pub IsUnused : ResidualNetwork → Type 0
IsUnused residual = (link : ℕ) → is_used residual.states link ≡ false
