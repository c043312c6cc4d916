-- Rows of a block that are taken in, piece by piece.
use Rattle.std.specs.Prelude.{◌≡◌, ◌<◌, ℕ, true, List, length}
use Rattle.coded_traffic.specs.CodeBlocks.{row_of}
use Rattle.due_sums.specs.Waiting.{IsSameWork, Waiting, has_input, input_at, is_given}
use Rattle.generation_frame.specs.Blocks.{piece_of_row, pieces}

-- a piece of an input stays as it was
pub record IsSame (old new : Waiting) (generation input piece : ℕ) : Type 0 where
  pub has : has_input new generation input piece ≡ has_input old generation input piece
  pub bytes : input_at new generation input piece ≡ input_at old generation input piece

-- The pieces below a number of an input of a generation came, with those of a row of bytes. All else that came stays, and
-- so does what was given.
pub record ArePiecesTaken (generation input count : ℕ) (row : List ℕ) (old new : Waiting) : Type 0 where
  pub work : IsSameWork old new
  pub came : (p : ℕ) → p < count → has_input new generation input p ≡ true
  pub bytes : (p : ℕ) → p < count → input_at new generation input p ≡ piece_of_row row p
  pub others : (g i p : ℕ) → i < old.inputs → p < pieces → ((g ≡ generation) × (i ≡ input) × (p < count) → ⊥) → IsSame old new g i p
  pub given : (g s p : ℕ) → s < length old.sums → p < pieces → is_given new g s p ≡ is_given old g s p

-- The first rows of a block came, in a generation.
pub record AreRowsTaken (generation count : ℕ) (block : List ℕ) (old new : Waiting) : Type 0 where
  pub work : IsSameWork old new
  pub came : (row p : ℕ) → row < count → p < pieces → has_input new generation row p ≡ true
  pub bytes : (row p : ℕ) → row < count → p < pieces → input_at new generation row p ≡ piece_of_row (row_of block row) p
  pub others : (g i p : ℕ) → i < old.inputs → p < pieces → ((g ≡ generation) × (i < count) → ⊥) → IsSame old new g i p
  pub given : (g s p : ℕ) → s < length old.sums → p < pieces → is_given new g s p ≡ is_given old g s p
