-- Links out of the source that carry one row of the blocks each, and the pairs that are put on them.
use Rattle.std.specs.Prelude.{◌≡◌, ◌<◌, ℕ, true, All, List, [], ◌∷◌}
use Rattle.generation_frame.specs.Blocks.{piece_of_row, pieces}
use Rattle.generation_frame.specs.Frames.{frame_of}
use Rattle.lif_outside.specs.declared.links.Flight.{Flight}
use Rattle.net_model.specs.Walks.{leaves_source}
use Rattle.node_program.specs.Value.{operands_at}
use Rattle.node_program.specs.declared.code.Code.{Code}
use Rattle.coded_traffic.specs.CodeBlocks.{row_of}

-- a link that leaves the source and has one operand: this row of the block, times 1
pub record CarriesRow (code : Code) (link row : ℕ) : Type 0 where
  pub leaves : leaves_source code.net link ≡ true
  pub alone : operands_at code.operands link ≡ record { from = row; times = 1 } ∷ []

-- A pair of a link and the frame of a piece of a row, of one of so many blocks.
pub record IsOfRow (block : ℕ → List ℕ) (blocks row : ℕ) (flight : Flight) : Type 0 where
  pub generation : ℕ
  pub piece : ℕ
  pub numbered : generation < blocks
  pub of_piece : piece < pieces
  pub frame : flight.frame ≡ frame_of (record {
    link = flight.link;
    generation = generation;
    piece = piece;
    payload = piece_of_row (row_of (block generation) row) piece;
  })

-- of these pairs, those of a link are of a row, of so many blocks
abbrev pub AreOfRow : (ℕ → List ℕ) → ℕ → ℕ → ℕ → List Flight → Type 0
AreOfRow block blocks row link pairs = All (λ flight. flight.link ≡ link → IsOfRow block blocks row flight) pairs
