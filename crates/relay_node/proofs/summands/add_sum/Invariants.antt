-- The operands so far.
use Rattle.std.proofs.Common.{◌≡◌, ◌++◌, take}
use Rattle.relay_node.specs.Summands.{summands_at}
use Rattle.relay_node.proofs.summands.add_sum.Given as goal

abbrev pub invariant-loop-place : goal.invariant-loop-place
invariant-loop-place l = l.all.items ≡ l.fn.all.items ++ take l.place (summands_at l.plan l.sum)
