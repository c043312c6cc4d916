-- The nodes that the source reaches in a residual network.
use Rattle.std.specs.Prelude.{◌≡◌, ◌<◌, ℕ, Bool, true, List, length, Some}
use Rattle.net_model.specs.Flows.{FlowNetwork, is_on}
use Rattle.net_model.specs.declared.Link.{Link}
use Rattle.unit_flow.specs.Residual.{passage}
use Rattle.unit_flow.specs.declared.residual.LinkState.{LinkState}

-- no link may be passed from a node on the side to one off it
abbrev pub IsClosed : List Link → List LinkState → List Bool → Type 0
IsClosed links states side =
    (link node next : ℕ) → link < length links → is_on side node ≡ true
    → passage links states link node ≡ Some next → is_on side next ≡ true

-- the least set of nodes with the source that is closed
pub record IsReached (network : FlowNetwork) (states : List LinkState)
    (side : List Bool) : Type 0 where
  pub whole : length side ≡ network.nodes
  pub source : is_on side network.source ≡ true
  pub closed : IsClosed network.links states side
  pub least : (other : List Bool) → is_on other network.source ≡ true
      → IsClosed network.links states other
      → (node : ℕ) → is_on side node ≡ true → is_on other node ≡ true
