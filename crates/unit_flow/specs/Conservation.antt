-- Conservation: where the used links of a residual network are a flow, as many lead into a node as
-- leave it.
use Rattle.std.specs.Prelude.{◌≡◌, ◌≢◌, ◌<◌, ◌+◌, ℕ, ◌&&◌, ◌==◌, if◌then◌else◌, List, length, count_by}
use Rattle.std.specs.List.{range_with_len}
use Rattle.net_model.specs.Flows.{FlowNetwork}
use Rattle.net_model.specs.Walks.{head_of, tail_of}
use Rattle.net_model.specs.declared.Link.{Link}
use Rattle.unit_flow.specs.Residual.{AreStates, is_used}
use Rattle.unit_flow.specs.declared.residual.LinkState.{LinkState}

-- the links lead from nodes to nodes, and so do source and sink, which differ
pub record IsFlowNetwork (network : FlowNetwork) : Type 0 where
  pub tails : (link : ℕ) → link < length network.links → tail_of network.links link < network.nodes
  pub heads : (link : ℕ) → link < length network.links → head_of network.links link < network.nodes
  pub source_node : network.source < network.nodes
  pub sink_node : network.sink < network.nodes
  pub apart : network.source ≢ network.sink

-- how many used links leave a node, and how many lead into it
abbrev pub used_from : List Link → List LinkState → ℕ → ℕ
used_from links states node =
    count_by (λ link. is_used states link && (tail_of links link == node))
    (range_with_len 0 (length links))

abbrev pub used_into : List Link → List LinkState → ℕ → ℕ
used_into links states node =
    count_by (λ link. is_used states link && (head_of links link == node))
    (range_with_len 0 (length links))

-- the used links are a flow of so many units from the source to the sink, and of one more from a
-- node on
pub record IsConservedFrom (network : FlowNetwork) (states : List LinkState)
    (value node : ℕ) : Type 0 where
  pub are_states : AreStates network states
  pub from_source : used_from network.links states network.source
      ≡ value + (if node == network.source then 1 else 0)
  pub into_source : used_into network.links states network.source ≡ 0
  pub from_sink : used_from network.links states network.sink ≡ 0
  pub balance : (other : ℕ) → other ≢ network.source → other ≢ network.sink
      → used_from network.links states other
      ≡ used_into network.links states other + (if node == other then 1 else 0)

-- the used links are a flow of so many units from the source to the sink
abbrev pub IsConserved : FlowNetwork → List LinkState → ℕ → Type 0
IsConserved network states value = IsConservedFrom network states value network.sink
