-- Following the chain of the links into a node.
use Rattle.std.specs.Prelude.{◌≡◌, ◌<◌, ◌≤◌, ℕ, Bool, true, false, List, length, slice_index_or}
use Rattle.net_model.specs.Walks.{head_of}
use Rattle.net_model.specs.declared.Link.{Link}

-- the links into the head of one, from it on and before another, are placed, and the other leads into the same node
pub record IsPassed (links : List Link) (placed : List Bool) (link next : ℕ) : Type 0 where
  pub after : link ≤ next
  pub within : next ≤ length links
  pub before : (l : ℕ) → link ≤ l → l < next → head_of links l ≡ head_of links link → slice_index_or placed l false ≡ true
  pub leads : next < length links → head_of links next ≡ head_of links link
