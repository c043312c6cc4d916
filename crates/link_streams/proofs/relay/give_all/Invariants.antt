use Rattle.link_streams.proofs.GiveLaws.{GivesTo}
use Rattle.link_streams.proofs.relay.give_all.Given as goal

abbrev pub invariant-loop-number : goal.invariant-loop-number
invariant-loop-number g l = GivesTo l.number l.fn.node l.node l.out
