use Rattle.std.proofs.Common.{◌-◌, length}
use Rattle.std.specs.Ordering.{nat_cmp}
use Rattle.std.specs.BTreeSet.{contains}
use Rattle.topo_order.proofs.LeavingSteps.{HasLeavingBefore}
use Rattle.topo_order.proofs.queue.add_leaving.Given as goal

-- the links before this one, which leaves the node too
abbrev pub invariant-loop-link : goal.invariant-loop-link
invariant-loop-link l = HasLeavingBefore l.net.links l.node l.link (contains nat_cmp l.initial.ready) (contains nat_cmp l.ready)

-- how far the last link is
abbrev pub decreases-loop-link : goal.decreases-loop-link
decreases-loop-link l = length l.net.links - l.link
