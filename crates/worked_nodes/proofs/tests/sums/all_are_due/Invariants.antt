use Rattle.std.proofs.Common.{◌≡◌, length}
use Rattle.worked_nodes.proofs.tests.sums.all_are_due.Given as goal

abbrev pub invariant-loop-number : goal.invariant-loop-number
invariant-loop-number l = (l.waiting.inputs ≡ l.initial.waiting.inputs) × (length l.waiting.held ≡ 2)
