-- Paths, flows and cuts, over all paths and all sets of links and nodes.
use Rattle.std.specs.Prelude.{◌≡◌, ◌<◌, ◌≤◌, ◌-◌, ℕ, Bool, true, false, not, ◌&&◌, nat_eq, IsTrue, List, length, slice_index, slice_index_or, All, filter}
use Rattle.std.specs.List.{list_any, range_with_len, concat}
use Rattle.net_model.specs.Failed.{failed_links}
use Rattle.net_model.specs.Lists.{are_distinct, is_among}
use Rattle.net_model.specs.Walks.{IsWalk, head_of, tail_of}
use Rattle.net_model.specs.declared.Demand.{Demand}
use Rattle.net_model.specs.declared.Link.{Link}
use Rattle.net_model.specs.declared.net.Net.{Net}

-- what carries the flow of one demand: so many nodes, links between them, some of which failed, a source and a sink
pub record FlowNetwork : Type 0 where
  pub nodes : ℕ
  pub links : List Link
  pub source : ℕ
  pub sink : ℕ
  pub failed : List ℕ

-- that of a demand of a network
abbrev pub flow_network : Net → Demand → FlowNetwork
flow_network net demand =
    record {
      nodes = length net.nodes;
      links = net.links;
      source = net.source;
      sink = slice_index net.sinks demand.sink;
      failed = failed_links net.patterns demand.pattern;
    }

-- links that follow one another from the source to the sink, none of which failed
pub record IsPath (network : FlowNetwork) (path : List ℕ) : Type 0 where
  pub some : 0 < length path
  pub walk : IsWalk network.links path
  pub start : tail_of network.links (slice_index path 0) ≡ network.source
  pub end : head_of network.links (slice_index path (length path - 1)) ≡ network.sink
  pub working : All (λ link. is_among network.failed link ≡ false) path

-- paths in which no link stands twice, neither in one nor in two
pub record IsFlow (network : FlowNetwork) (paths : List (List ℕ)) : Type 0 where
  pub each : All (IsPath network) paths
  pub disjoint : IsTrue (are_distinct nat_eq (concat paths))

-- no flow has more paths
pub record IsGreatestFlow (network : FlowNetwork) (paths : List (List ℕ)) : Type 0 where
  pub flow : IsFlow network paths
  pub greatest : (other : List (List ℕ)) → IsFlow network other → length other ≤ length paths

-- links of which every path has one
abbrev pub IsCut : FlowNetwork → List ℕ → Type 0
IsCut network cut = (path : List ℕ) → IsPath network path → IsTrue (list_any (is_among cut) path)

-- no cut has fewer links
pub record IsLeastCut (network : FlowNetwork) (cut : List ℕ) : Type 0 where
  pub is_cut : IsCut network cut
  pub least : (other : List ℕ) → IsCut network other → length cut ≤ length other

-- a node is on a side, which is a truth value for each node
abbrev pub is_on : List Bool → ℕ → Bool
is_on side node = slice_index_or side node false

-- a set of nodes with the source and without the sink
pub record IsSide (network : FlowNetwork) (side : List Bool) : Type 0 where
  pub whole : length side ≡ network.nodes
  pub source : is_on side network.source ≡ true
  pub sink : is_on side network.sink ≡ false

-- a link that didn't fail leaves a side
abbrev pub leaves : FlowNetwork → List Bool → ℕ → Bool
leaves network side link = not (is_among network.failed link) && is_on side (tail_of network.links link) && not (is_on side (head_of network.links link))

-- the links that leave a side, in rising order
abbrev pub crossing : FlowNetwork → List Bool → List ℕ
crossing network side = filter (leaves network side) (range_with_len 0 (length network.links))

-- a side that is left by as few links as a least cut has
pub record IsLeastCrossed (network : FlowNetwork) (side : List Bool) : Type 0 where
  pub is_side : IsSide network side
  pub least : IsLeastCut network (crossing network side)

-- the side that lies in every other such side
pub record IsLeastSide (network : FlowNetwork) (side : List Bool) : Type 0 where
  pub crossed : IsLeastCrossed network side
  pub inside : (other : List Bool) → IsLeastCrossed network other → (node : ℕ) → is_on side node ≡ true → is_on other node ≡ true
