-- Chains of the links at one node, in rising order.
use Rattle.std.specs.Prelude.{◌≡◌, ◌≢◌, ◌<◌, ◌≤◌, ◌+◌, ℕ, List, length, slice_index}
use Rattle.net_model.specs.Walks.{head_of, tail_of}
use Rattle.net_model.specs.declared.Link.{Link}
use Rattle.net_model.specs.declared.net.Net.{Net}
use Rattle.link_chains.specs.declared.chains.LinkEnd.{LinkEnd}
use Rattle.link_chains.specs.declared.chains.LinkEnd.TheVariants.{Tail, Head}

-- the node at an end of a link
abbrev pub end_of : List Link → LinkEnd → ℕ → ℕ
end_of links Tail = tail_of links
end_of links Head = head_of links

-- the least link from a number on that ends at a node, or the number of links
pub record IsNextAt (end : ℕ → ℕ) (count node from link : ℕ) : Type 0 where
  pub not_before : from ≤ link
  pub within : link ≤ count
  pub before : (l : ℕ) → from ≤ l → l < link → end l ≢ node
  pub ends : link < count → end link ≡ node

-- for each node the first link at it, from a number on
pub record AreFirsts (end : ℕ → ℕ) (count nodes from : ℕ) (firsts : List ℕ) : Type 0 where
  pub each_node : length firsts ≡ nodes
  pub first : (node : ℕ) → node < nodes → IsNextAt end count node from (slice_index firsts node)

-- for each link from a number on the next one at the same node
pub record AreNexts (end : ℕ → ℕ) (count from : ℕ) (nexts : List ℕ) : Type 0 where
  pub each_link : length nexts ≡ count
  pub next : (l : ℕ) → from ≤ l → l < count
      → IsNextAt end count (end l) (l + 1) (slice_index nexts l)

-- the first links of a network that have an end at each node
abbrev pub AreFirstsAt : Net → LinkEnd → List ℕ → Type 0
AreFirstsAt net end = AreFirsts (end_of net.links end) (length net.links) (length net.nodes) 0

-- for each link of a network the next one at the same node
abbrev pub AreNextsAt : Net → LinkEnd → List ℕ → Type 0
AreNextsAt net end = AreNexts (end_of net.links end) (length net.links) 0
