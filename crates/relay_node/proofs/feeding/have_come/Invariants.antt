use Rattle.std.proofs.Common.{◌≡◌, ◌<◌, ℕ, false}
use Rattle.std.specs.List.{list_any, range_with_len}
use Rattle.due_sums.specs.Waiting.{has_input}
use Rattle.generation_frame.specs.Blocks.{pieces}
use Rattle.relay_node.proofs.feeding.have_come.Given as goal

-- no piece of a row so far has come
abbrev pub invariant-loop-row : goal.invariant-loop-row
invariant-loop-row l = (k : ℕ) → k < l.row → list_any (λ piece. has_input l.sums l.generation k piece) (range_with_len 0 pieces) ≡ false
