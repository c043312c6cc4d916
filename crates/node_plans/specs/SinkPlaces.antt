-- The places of nodes among the sinks, as the sinks are gone over.
use Rattle.std.specs.Prelude.{◌≡◌, ◌<◌, ◌==◌, ℕ, List, Option, None, length, position, slice_index_or}
use Rattle.node_program.specs.declared.code.Code.{Code}

-- for each node of a code its place among some sinks, where it is one
pub record AreSinkPlaces (code : Code) (sinks : List ℕ) (places : List (Option ℕ)) : Type 0 where
  pub count : length places ≡ length code.net.nodes
  pub each : (node : ℕ) → node < length code.net.nodes
      → slice_index_or places node None ≡ position (λ one. one == node) sinks
