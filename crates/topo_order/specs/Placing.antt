-- The links placed so far, as the code keeps them.
use Rattle.std.specs.Prelude.{◌≡◌, ◌<◌, ◌≤◌, ◌+◌, ◌-◌, ℕ, Bool, None, true, false, List, length, slice_index, slice_index_or}
use Rattle.net_model.specs.Lists.{is_among}
use Rattle.net_model.specs.Walks.{head_of}
use Rattle.net_model.specs.declared.Link.{Link}
use Rattle.net_model.specs.declared.net.Net.{Net}
use Rattle.topo_order.specs.Order.{next_link, order_from, order_of, IsPlaced}
use Rattle.topo_order.specs.declared.placing.Placing.{Placing}

-- the least link from a number on that leads into a node and isn't placed, or the number of links
pub record IsNextInto (links : List Link) (placed : List Bool) (node from link : ℕ) : Type 0 where
  pub not_before : from ≤ link
  pub within : link ≤ length links
  pub before : (l : ℕ) → from ≤ l → l < link → head_of links l ≡ node
      → slice_index_or placed l false ≡ true
  pub leads : link < length links → head_of links link ≡ node
  pub not_placed : link < length links → slice_index_or placed link false ≡ false

-- the links placed so far begin the order, and what is kept of them is right
pub record IsPlacing (links : List Link) (nodes : ℕ) (placing : Placing) : Type 0 where
  pub begins : order_from links (length links - length placing.order.items) placing.order.items
      ≡ order_of links
  pub sound : IsPlaced links placing.order.items
  pub flags : length placing.placed.items ≡ length links
  pub marked : (l : ℕ) → l < length links
      → slice_index_or placing.placed.items l false ≡ is_among placing.order.items l
  pub watched : length placing.into.items ≡ nodes
  pub next : (node : ℕ) → node < nodes
      → IsNextInto links placing.placed.items node 0 (slice_index placing.into.items node)

-- the same of the links of a network
abbrev pub IsPlacingIn : Net → Placing → Type 0
IsPlacingIn net = IsPlacing net.links (length net.nodes)

-- one link more is placed
abbrev pub IsOneLonger : Placing → Placing → Type 0
IsOneLonger old new = length new.order.items ≡ length old.order.items + 1

-- no link may be placed next
abbrev pub IsStuck : Net → Placing → Type 0
IsStuck net placing = next_link net.links placing.order.items ≡ None

-- no other link is placed
abbrev pub HasSameOrder : Placing → Placing → Type 0
HasSameOrder old new = new.order.items ≡ old.order.items
