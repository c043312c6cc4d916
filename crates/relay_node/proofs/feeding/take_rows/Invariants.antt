-- The rows taken in so far, and nothing of the others has come.
use Rattle.std.specs.Prelude.{◌≡◌, ◌≤◌, ◌<◌, ℕ, false, List}
use Rattle.due_sums.specs.Waiting.{Waiting, has_input}
use Rattle.generation_frame.specs.Blocks.{pieces}
use Rattle.relay_node.specs.Feeding.{AreRowsTaken}
use Rattle.relay_node.proofs.feeding.take_rows.Given as goal

pub record Taken (generation rows count : ℕ) (block : List ℕ) (old new : Waiting) : Type 0 where
  pub taken : AreRowsTaken generation count block old new
  pub none : (row p : ℕ) → count ≤ row → row < rows → p < pieces → has_input new generation row p ≡ false

abbrev pub invariant-loop-row : goal.invariant-loop-row
invariant-loop-row l = Taken l.generation l.rows l.row l.block l.fn.sums l.sums
