-- A search for the nodes that the source reaches, depth first, as the code keeps it.
use Rattle.std.specs.Prelude.{◌≡◌, ◌≢◌, ◌<◌, ◌≤◌, ◌+◌, ◌-◌, ◌*◌, ℕ, true, false, ◌&&◌, ◌==◌, nat_lt, List, Bool, length, slice_index, slice_set, count_by, ◌⊎◌, Option, Some}
use Rattle.std.specs.List.{range_with_len}
use Rattle.std.specs.Option.{option_map_or}
use Rattle.link_chains.specs.Chains.{end_of}
use Rattle.link_chains.specs.declared.chains.LinkEnd.{LinkEnd}
use Rattle.net_model.specs.Flows.{FlowNetwork, flow_network, is_on}
use Rattle.net_model.specs.Walks.{head_of, tail_of}
use Rattle.net_model.specs.declared.Link.{Link}
use Rattle.net_model.specs.declared.net.Net.{Net}
use Rattle.unit_flow.specs.Reaching.{IsClosed, IsReached}
use Rattle.unit_flow.specs.Residual.{ResidualNetwork, passage}
use Rattle.unit_flow.specs.declared.residual.LinkState.{LinkState}
use Rattle.unit_flow.specs.declared.search.Entry.{Entry}
use Rattle.unit_flow.specs.declared.search.Passed.{Passed}
use Rattle.unit_flow.specs.declared.search.Search.{Search}

-- there is a place for each node
pub record HasPlaces (nodes : ℕ) (search : Search) : Type 0 where
  pub way : length search.way.items ≡ nodes
  pub came : length search.came.items ≡ nodes
  pub reached : length search.reached.items ≡ nodes
  pub from : length search.from.items ≡ nodes
  pub into : length search.into.items ≡ nodes

-- the node at a place of the way, and the link by which it was reached
abbrev pub node_at : Search → ℕ → ℕ
node_at search place = slice_index search.way.items place

abbrev pub link_at : Search → ℕ → ℕ
link_at search place = slice_index search.came.items (node_at search place)

-- the node at a place was reached by its link from one before it
pub record CameByLink (links : List Link) (states : List LinkState) (search : Search)
    (place : ℕ) : Type 0 where
  pub from : ℕ
  pub before : from < place
  pub within : link_at search place < length links
  pub leads : passage links states (link_at search place) (node_at search from)
      ≡ Some (node_at search place)

-- the way leads from the source on, over nodes of which each is there once
pub record IsWay (network : FlowNetwork) (states : List LinkState) (search : Search) : Type 0 where
  pub places : HasPlaces network.nodes search
  pub within : search.depth ≤ network.nodes
  pub first : 0 < search.depth → node_at search 0 ≡ network.source
  pub nodes : (place : ℕ) → place < search.depth → node_at search place < network.nodes
  pub distinct : (i j : ℕ) → i < j → j < search.depth → node_at search i ≢ node_at search j
  pub came : (place : ℕ) → 0 < place → place < search.depth
      → CameByLink network.links states search place

-- the last node of the way, which is looked at
abbrev pub last_of : Search → ℕ
last_of search = node_at search (search.depth - 1)

-- a link that ends at a node, or the number of links
pub record IsOnChain (end : ℕ → ℕ) (count node link : ℕ) : Type 0 where
  pub within : link ≤ count
  pub ends : link < count → end link ≡ node

-- the links before the cursors of their nodes were passed: their nodes and what they lead to were
-- reached
pub record ArePassed (links : List Link) (states : List LinkState) (end : ℕ → ℕ) (nodes : ℕ)
    (cursors : ℕ → ℕ) (reached : List Bool) : Type 0 where
  pub on_chains : (node : ℕ) → node < nodes → IsOnChain end (length links) node (cursors node)
  pub at_reached : (link : ℕ) → link < length links → link < cursors (end link)
      → is_on reached (end link) ≡ true
  pub led : (link next : ℕ) → link < length links → link < cursors (end link)
      → passage links states link (end link) ≡ Some next → is_on reached next ≡ true

-- how many links are before the cursors of their nodes
abbrev pub passed_ends : (ℕ → ℕ) → ℕ → (ℕ → ℕ) → ℕ
passed_ends end count cursors =
    count_by (λ link. nat_lt link (cursors (end link))) (range_with_len 0 count)

-- how many links at a node are before a link
abbrev pub ends_below : (ℕ → ℕ) → ℕ → ℕ → ℕ → ℕ
ends_below end count node bound =
    count_by (λ link. (end link == node) && nat_lt link bound) (range_with_len 0 count)

-- how many of them are at marked nodes
abbrev pub marked_ends : (ℕ → ℕ) → ℕ → List Bool → (ℕ → ℕ) → ℕ
marked_ends end count marks cursors =
    count_by (λ link. is_on marks (end link) && nat_lt link (cursors (end link)))
    (range_with_len 0 count)

-- how often a search looked at a link from one of its ends: at those before the cursors, but for
-- those into nodes without a mark that a used link ever led into them
abbrev pub looks : List Link → List Bool → Search → ℕ
looks links entered search =
    passed_ends (tail_of links) (length links) (slice_index search.from.items)
    + marked_ends (head_of links) (length links) entered (slice_index search.into.items)

-- a look at each link from each of its ends on a side, but for those into nodes without a mark
abbrev pub looks_from : List Link → List Bool → List Bool → ℕ
looks_from links entered side =
    count_by (λ link. is_on side (tail_of links link)) (range_with_len 0 (length links))
    + count_by (λ link. is_on entered (head_of links link) && is_on side (head_of links link))
    (range_with_len 0 (length links))

-- all links at a node were passed
pub record IsLeft (count : ℕ) (search : Search) (node : ℕ) : Type 0 where
  pub from : count ≤ slice_index search.from.items node
  pub into : count ≤ slice_index search.into.items node

-- a node is on the way
abbrev pub IsOnWay : Search → ℕ → Type 0
IsOnWay search node = (place : ℕ) × (place < search.depth) × (node_at search place ≡ node)

-- the nodes that were reached are on the way or left, and the source reaches them
pub record IsSearching (network : FlowNetwork) (states : List LinkState)
    (search : Search) : Type 0 where
  pub way : IsWay network states search
  pub source : is_on search.reached.items network.source ≡ true
  pub on_way : (place : ℕ) → place < search.depth
      → is_on search.reached.items (node_at search place) ≡ true
  pub from : ArePassed network.links states (tail_of network.links) network.nodes
      (slice_index search.from.items) search.reached.items
  pub into : ArePassed network.links states (head_of network.links) network.nodes
      (slice_index search.into.items) search.reached.items
  pub left : (node : ℕ) → is_on search.reached.items node ≡ true
      → IsOnWay search node ⊎ IsLeft (length network.links) search node
  pub least : (side : List Bool) → is_on side network.source ≡ true
      → IsClosed network.links states side
      → (node : ℕ) → is_on search.reached.items node ≡ true → is_on side node ≡ true

-- an entry leads from a node to one that wasn't reached
pub record IsEntry (net : Net) (states : List LinkState) (node : ℕ) (reached : List Bool)
    (entry : Entry) : Type 0 where
  pub below : entry.node < length net.nodes
  pub within : entry.link < length net.links
  pub leads : passage net.links states entry.link node ≡ Some entry.node
  pub fresh : is_on reached entry.node ≡ false

-- what was reached, and the node of an entry
abbrev pub with_entry : Option Entry → List Bool → List Bool
with_entry entry reached =
    option_map_or (λ one. slice_set reached one.node true) entry reached

-- the links at a node from one on were passed, at a step each, and led to nothing new but an entry
pub record HasPassed (net : Net) (states : List LinkState) (end : LinkEnd) (node from : ℕ)
    (reached : List Bool) (passed : Passed) (old new : ℕ) : Type 0 where
  pub on_chain : IsOnChain (end_of net.links end) (length net.links) node passed.next
  pub led : (link next : ℕ) → from ≤ link → link < passed.next → end_of net.links end link ≡ node
      → passage net.links states link node ≡ Some next
      → is_on (with_entry passed.entry reached) next ≡ true
  pub steps : new + ends_below (end_of net.links end) (length net.links) node from
      ≡ old + ends_below (end_of net.links end) (length net.links) node passed.next
  pub not_back : from ≤ passed.next

-- the way and what was reached stay
pub record KeepsWay (old new : Search) : Type 0 where
  pub way : new.way.items ≡ old.way.items
  pub depth : new.depth ≡ old.depth
  pub came : new.came.items ≡ old.came.items
  pub reached : new.reached.items ≡ old.reached.items

-- the cursors of a node alone went on
pub record MovesAt (node : ℕ) (old new : Search) : Type 0 where
  pub from : new.from.items ≡ slice_set old.from.items node (slice_index new.from.items node)
  pub into : new.into.items ≡ slice_set old.into.items node (slice_index new.into.items node)

-- the links before the cursors led to nothing new but an entry
pub record HaveLed (network : FlowNetwork) (states : List LinkState) (search : Search)
    (reached : List Bool) : Type 0 where
  pub from : ArePassed network.links states (tail_of network.links) network.nodes
      (slice_index search.from.items) reached
  pub into : ArePassed network.links states (head_of network.links) network.nodes
      (slice_index search.into.items) reached

-- a search in a residual network of a network
abbrev pub IsSearchIn : Net → ResidualNetwork → Search → Type 0
IsSearchIn net residual = IsSearching (flow_network net residual.demand) residual.states

abbrev pub IsWayIn : Net → ResidualNetwork → Search → Type 0
IsWayIn net residual = IsWay (flow_network net residual.demand) residual.states

-- what the links before the cursors led to in it
abbrev pub HaveLedIn : Net → ResidualNetwork → List Bool → Search → Type 0
HaveLedIn net residual reached search =
    HaveLed (flow_network net residual.demand) residual.states search reached

-- between two states of a search links were looked at, at a step each
pub record CountsLooks (net : Net) (entered : List Bool) (old new : Search)
    (before after : ℕ) : Type 0 where
  pub not_back : before ≤ after
  pub counted : after + looks net.links entered old ≡ before + looks net.links entered new

-- more links were looked at, or the way is shorter
abbrev pub GoesOn : Net → List Bool → Search → Search → Type 0
GoesOn net entered old new =
    new.depth + 2 * looks net.links entered old < old.depth + 2 * looks net.links entered new

-- the way ends at a node
pub record EndsAt (node : ℕ) (search : Search) : Type 0 where
  pub some : 0 < search.depth
  pub last : last_of search ≡ node

-- the node of a residual network's sink
abbrev pub sink_of : Net → ResidualNetwork → ℕ
sink_of net residual = slice_index net.sinks residual.demand.sink

-- whether a search reached the sink
abbrev pub has_sink : Net → ResidualNetwork → Search → Bool
has_sink net residual search = is_on search.reached.items (sink_of net residual)

-- a search reached the nodes that the source reaches, and no others
abbrev pub HasReached : Net → ResidualNetwork → Search → Type 0
HasReached net residual search =
    IsReached (flow_network net residual.demand) residual.states search.reached.items
