use Rattle.std.proofs.Common.{◌≡◌, length}
use Rattle.worked_nodes.proofs.tests.received.block_of.Given as goal

-- so many bytes so far
abbrev pub invariant-loop-place : goal.invariant-loop-place
invariant-loop-place l = length l.block.items ≡ l.place
