use Rattle.std.proofs.Common.{◌≡◌, ◌<◌, ℕ, false}
use Rattle.due_sums.specs.Waiting.{has_input}
use Rattle.relay_node.proofs.feeding.row_has_come.Given as goal

-- no piece so far has come
abbrev pub invariant-loop-piece : goal.invariant-loop-piece
invariant-loop-piece l = (k : ℕ) → k < l.piece → has_input l.sums l.generation l.row k ≡ false
