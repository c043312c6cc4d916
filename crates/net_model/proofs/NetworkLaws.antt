-- What holds of the nodes of a network.
use Rattle.std.specs.Prelude.{◌≡◌, ℕ, zero, suc, ◌<◌, true, List, [], ◌∷◌, length, slice_get, unwrap_or}
use Rattle.std.specs.List.{list_all}
use Rattle.std.proofs.Common.{arith}
use Rattle.std.proofs.lemmas.Bool.{and_parts}
pub use Rattle.item_list.proofs.Tests.{passes_at}
use Rattle.net_model.specs.Name.{is_name, IsName}

-- the name of a node
pub node_name : (names : List (List ℕ)) (node : ℕ) → node < length names → list_all is_name names ≡ true → IsName (unwrap_or (slice_get names node) [])
node_name [] node within all = absurd (omega arith)
node_name (name ∷ names) zero within all = (and_parts _ _ all).0
node_name (name ∷ names) (suc node) within all = node_name names node (omega arith) (and_parts _ _ all).1
