use Rattle.std.proofs.Common.{◌-◌, length}
use Rattle.topo_order.proofs.placing.next_unplaced.Given as goal
use Rattle.topo_order.proofs.Passing.{IsPassed}

-- the links into the node before this one are placed
abbrev pub invariant-loop-next : goal.invariant-loop-next
invariant-loop-next l = IsPassed l.net.links l.placed l.link l.next

-- how far the last link is
abbrev pub decreases-loop-next : goal.decreases-loop-next
decreases-loop-next l = length l.net.links - l.next
