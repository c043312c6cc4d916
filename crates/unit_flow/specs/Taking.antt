-- One path after another is taken from the used links.
use Rattle.std.specs.Prelude.{◌≡◌, ◌<◌, ◌≤◌, ℕ, suc, false, List, length, slice_index}
use Rattle.net_model.specs.Flows.{FlowNetwork}
use Rattle.net_model.specs.Walks.{tail_of}
use Rattle.net_model.specs.declared.Link.{Link}
use Rattle.unit_flow.specs.Residual.{is_used}
use Rattle.unit_flow.specs.Decomposition.{Taken, taken_from}
use Rattle.unit_flow.specs.declared.residual.LinkState.{LinkState}
use Rattle.unit_flow.specs.declared.decomposing.Undecomposed.{Undecomposed}
use Rattle.net_model.specs.declared.net.Net.{Net}

-- the first path, and the states without it
abbrev pub first_taken : FlowNetwork → List LinkState → Taken
first_taken network states = taken_from network (suc (length network.links)) network.source states

-- a link at a node, or the number of links: before it no used link leaves the node
pub record IsCursor (links : List Link) (states : List LinkState) (node link : ℕ) : Type 0 where
  pub within : link ≤ length links
  pub leaves : link < length links → tail_of links link ≡ node
  pub before : (l : ℕ) → l < link → tail_of links l ≡ node → is_used states l ≡ false

-- one for each node
pub record AreCursors (links : List Link) (nodes : ℕ) (states : List LinkState)
    (cursors : List ℕ) : Type 0 where
  pub each_node : length cursors ≡ nodes
  pub cursor : (node : ℕ) → node < nodes → IsCursor links states node (slice_index cursors node)

-- those of the used links that are on no path yet
abbrev pub HasCursors : Net → Undecomposed → Type 0
HasCursors net undecomposed =
    AreCursors net.links (length net.nodes) undecomposed.residual.states undecomposed.cursors.items
