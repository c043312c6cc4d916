-- Adding the links that leave a node, along their chain.
use Rattle.std.specs.Prelude.{◌≡◌, ◌<◌, ◌≤◌, ℕ, Bool, true, ◌||◌, ◌==◌, List, length}
use Rattle.std.proofs.Common.{◌⊎◌}
use Rattle.net_model.specs.Walks.{tail_of}
use Rattle.net_model.specs.declared.Link.{Link}

-- a test tells what another does, and the links before one that leave a node, which that one leaves too
pub record HasLeavingBefore (links : List Link) (node next : ℕ) (old new : ℕ → Bool) : Type 0 where
  pub within : next ≤ length links
  pub leaves : next < length links → tail_of links next ≡ node
  pub below : (l : ℕ) → new l ≡ true → (old l ≡ true) ⊎ (l < length links)
  pub earlier : (l : ℕ) → l < next → new l ≡ (old l || (tail_of links l == node))
  pub later : (l : ℕ) → next ≤ l → new l ≡ old l
