-- Blocks of a file that are carried over links, from the first one on, and what the sinks' files get of them.
use Rattle.std.specs.Prelude.{◌≡◌, ◌≤◌, ◌+◌, ℕ, Bool, List, [], ◌∷◌, ◌++◌, map}
use Rattle.std.specs.List.{range_with_len}
use Rattle.generation_frame.specs.Blocks.{block_of, piece_of}
use Rattle.lif_outside.specs.Calls.{Calls}
use Rattle.lif_outside.specs.Events.{Event}
use Rattle.lif_outside.specs.Moves.{Move}
use Rattle.lif_outside.specs.FileCalls.{appends_of}
use Rattle.node_program.specs.declared.code.Code.{Code}
pub use Rattle.relay_runner.specs.Carried.{IsCarried, IsStopped, packets_given}
use Rattle.source_delivery.specs.Turns.{Outputs, turns_before}

-- the block of a generation of a file
abbrev pub file_block : List ℕ → ℕ → ℕ → List ℕ
file_block file rate generation = block_of rate (piece_of file rate generation)

-- so many blocks, by their generations, from one on
abbrev pub blocks_in : (ℕ → List ℕ) → ℕ → ℕ → List (List ℕ)
blocks_in block first count = map block (range_with_len first count)

-- and those of a file
abbrev pub blocks_from : List ℕ → ℕ → ℕ → ℕ → List (List ℕ)
blocks_from file rate first count = blocks_in (file_block file rate) first count

-- blocks were carried that are numbered from a generation on; where there is none, there is no call
abbrev pub AreCarried : Bool → Code → ℕ → ℕ → List (List ℕ) → List Move → Type 0
AreCarried faithful code pattern first [] moves = moves ≡ []
AreCarried faithful code pattern first (block ∷ blocks) moves =
    IsCarried faithful code pattern (record { first = first; blocks = block ∷ blocks }) moves

-- Of so many blocks, by their generations, the first ones were carried, and of the calls on the links after that R holds.
pub record CarriesFirst (faithful : Bool) (code : Code) (pattern : ℕ) (block : ℕ → List ℕ) (blocks : ℕ) (R : ℕ → List Move → Type 0) (carried : ℕ)
    (moves : List Move) : Type 0 where
  pub first : List Move
  pub later : List Move
  pub moves_are : moves ≡ first ++ later
  pub some : carried ≤ blocks
  pub carries : AreCarried faithful code pattern 0 (blocks_in block 0 carried) first
  pub rest : R carried later

-- no further call was made
abbrev pub IsOver : ℕ → List Move → Type 0
IsOver carried later = later ≡ []

-- some blocks more were begun, and a call failed
pub record Breaks (faithful : Bool) (code : Code) (pattern : ℕ) (block : ℕ → List ℕ) (blocks : ℕ) (carried : ℕ) (later : List Move) : Type 0 where
  pub more : ℕ
  pub some : carried + more ≤ blocks
  pub stopped : IsStopped faithful code pattern (record { first = carried; blocks = blocks_in block carried more }) later

-- The first blocks were carried, and what came of them delivered to these files: Q holds of the appends that are due and of those that
-- were made.
pub record Delivers (faithful : Bool) (code : Code) (pattern : ℕ) (outputs : Outputs) (block : ℕ → List ℕ) (blocks : ℕ)
    (R : ℕ → List Move → Type 0) (Q : List Event → List Event → Type 0) (calls : Calls) : Type 0 where
  pub carried : ℕ
  pub on_links : CarriesFirst faithful code pattern block blocks R carried calls.on_links
  pub on_store : Q (appends_of (turns_before outputs code pattern (packets_given calls.on_links) carried)) calls.on_store
