use Rattle.std.specs.Ordering.{nat_cmp}
use Rattle.std.specs.BTreeSet.{contains}
use Rattle.topo_order.specs.Queue.{AreReady}
use Rattle.topo_order.proofs.queue.first_ready.Given as goal

-- the links before this one that may be placed
abbrev pub invariant-loop-link : goal.invariant-loop-link
invariant-loop-link l = AreReady l.net.links l.placing.order.items l.link (contains nat_cmp l.ready)
