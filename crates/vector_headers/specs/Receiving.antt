-- What a node's live links bring of a block where links fail.
use Rattle.std.specs.Prelude.{◌≡◌, ◌<◌, ◌==◌, ◌&&◌, ℕ, List, filter, length, map, reverse, true}
use Rattle.std.specs.List.{AllByRecursion, range_with_len}
use Rattle.generation_frame.specs.Blocks.{row_bytes}
use Rattle.linear_algebra.specs.Matrices.{rows_of}
use Rattle.net_model.specs.Walks.{head_of}
use Rattle.node_program.specs.Value.{global_vector, is_live}
use Rattle.node_program.specs.declared.code.Code.{Code}
use Rattle.vector_headers.specs.Fabric.{Carried}
use Rattle.vector_headers.specs.Ranks.{AreAccepted, rank_of}
use Rattle.vector_headers.specs.Rows.{Admits, Holding, piece_of_block, rows_of_piece}

-- the live links into a node where links fail, in rising order
abbrev pub ins_where : Code → List ℕ → ℕ → List ℕ
ins_where code failed node =
    filter (λ link. is_live code.net code.operands failed link && (head_of code.net.links link == node)) (range_with_len 0 (length code.net.links))

-- the vectors of links
abbrev pub vectors_over : Code → List ℕ → List ℕ → List (List ℕ)
vectors_over code failed links = map (λ link. global_vector code.net code.field code.operands failed code.rate link) links

-- their rank: how many of them aren't sums of multiples of those before them
abbrev pub rank_over : Code → List ℕ → List ℕ → ℕ
rank_over code failed links = rank_of code.field code.rate (vectors_over code failed (reverse links))

-- the vectors of the live links into a node, and their rank
abbrev pub vectors_into : Code → List ℕ → ℕ → List (List ℕ)
vectors_into code failed node = vectors_over code failed (ins_where code failed node)

abbrev pub rank_into : Code → List ℕ → ℕ → ℕ
rank_into code failed node = rank_over code failed (ins_where code failed node)

-- a link of a code that is live where links fail
pub record IsLiveLink (code : Code) (failed : List ℕ) (link : ℕ) : Type 0 where
  pub within : link < length code.net.links
  pub live : is_live code.net code.operands failed link ≡ true

-- the rows of a block
abbrev pub rows_carried : Code → Carried → List (List ℕ)
rows_carried code one = rows_of code.rate row_bytes one.block

-- what is kept of a piece is what links brought of it, the last one first, and a block admits it
pub record IsReceived (code : Code) (failed : List ℕ) (one : Carried) (links : List ℕ) (piece : ℕ) (holding : Holding) : Type 0 where
  pub accepted : AreAccepted code.field code.rate (vectors_over code failed links) (rows_of_piece holding piece)
  pub admits : AllByRecursion (Admits code.field (piece_of_block code.field (rows_carried code one) piece)) (rows_of_piece holding piece)
