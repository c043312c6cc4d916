-- The pieces taken in so far, and none of the others has come.
use Rattle.std.specs.Prelude.{◌≡◌, ◌≤◌, ◌<◌, ℕ, false, List}
use Rattle.due_sums.specs.Waiting.{Waiting, has_input}
use Rattle.generation_frame.specs.Blocks.{pieces}
use Rattle.relay_node.specs.Feeding.{ArePiecesTaken}
use Rattle.relay_node.proofs.feeding.take_row.Given as goal

pub record Taken (generation input piece : ℕ) (row : List ℕ) (old new : Waiting) : Type 0 where
  pub taken : ArePiecesTaken generation input piece row old new
  pub none : (p : ℕ) → piece ≤ p → p < pieces → has_input new generation input p ≡ false

abbrev pub invariant-loop-piece : goal.invariant-loop-piece
invariant-loop-piece l = Taken l.generation l.input l.piece l.row l.fn.sums l.sums
