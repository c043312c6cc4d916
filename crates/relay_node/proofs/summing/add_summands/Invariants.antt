-- The summands added up so far.
use Rattle.relay_node.specs.Summed.{IsSummed, came_of}
use Rattle.relay_node.proofs.summing.add_summands.Given as goal

abbrev pub invariant-loop-summand : goal.invariant-loop-summand
invariant-loop-summand l = IsSummed l.field l.summands (came_of l.sums l.due.generation l.due.piece) l.summand-index l.payload
