-- Sinks that have the rank of a code, by the links that they take in.
use Rattle.std.specs.Prelude.{◌≡◌, ℕ, List, All}
use Rattle.node_program.specs.declared.code.Code.{Code}
use Rattle.vector_headers.specs.Receiving.{IsLiveLink, rank_over}

-- live links where some fail, whose vectors have the rank of the code
pub record HasRank (code : Code) (failed links : List ℕ) : Type 0 where
  pub live : All (IsLiveLink code failed) links
  pub full : rank_over code failed links ≡ code.rate
