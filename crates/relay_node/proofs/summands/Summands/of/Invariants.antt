-- The sums so far.
use Rattle.relay_node.proofs.SummandLaws.{HasSums}
use Rattle.relay_node.proofs.summands.Summands.of.Given as goal

abbrev pub invariant-loop-sum : goal.invariant-loop-sum
invariant-loop-sum l = HasSums l.plan l.sum l.all.items l.starts.items
