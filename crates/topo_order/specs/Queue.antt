-- The links that may be placed next, as the code keeps them.
use Rattle.std.specs.Prelude.{◌≡◌, ◌<◌, ℕ, Bool, true, ◌||◌, ◌==◌, ◌⊎◌, List, length}
use Rattle.std.specs.Ordering.{nat_cmp}
use Rattle.std.specs.BTreeSet.{BTreeSet, contains}
use Rattle.net_model.specs.Walks.{tail_of}
use Rattle.net_model.specs.declared.Link.{Link}
use Rattle.net_model.specs.declared.net.Net.{Net}
use Rattle.topo_order.specs.Order.{is_ready}
use Rattle.topo_order.specs.declared.placing.Placing.{Placing}

-- a test tells which links below a number may be placed next, and none beyond
pub record AreReady (links : List Link) (placed : List ℕ) (bound : ℕ)
    (has : ℕ → Bool) : Type 0 where
  pub below : (l : ℕ) → has l ≡ true → l < bound
  pub each : (l : ℕ) → l < bound → has l ≡ is_ready links placed l

-- a test tells what another does, and the links that leave a node
pub record HasLeaving (links : List Link) (node : ℕ) (old new : ℕ → Bool) : Type 0 where
  pub below : (l : ℕ) → new l ≡ true → (old l ≡ true) ⊎ (l < length links)
  pub each : (l : ℕ) → l < length links → new l ≡ (old l || (tail_of links l == node))

-- a set has the links of a network that may be placed next
abbrev pub HasReady : Net → Placing → BTreeSet ℕ → Type 0
HasReady net placing ready =
    AreReady net.links placing.order.items (length net.links) (contains nat_cmp ready)

-- a set has what another has, and the links of a network that leave a node
abbrev pub HasAlso : Net → ℕ → BTreeSet ℕ → BTreeSet ℕ → Type 0
HasAlso net node old new = HasLeaving net.links node (contains nat_cmp old) (contains nat_cmp new)
