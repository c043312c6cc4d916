use Rattle.std.proofs.Common.{◌≡◌, length}
use Rattle.topo_order.specs.Placing.{IsPlacingIn}
use Rattle.topo_order.specs.Queue.{HasReady}
use Rattle.topo_order.proofs.ordering.order_along.Given as goal

-- so many links are placed, and the set has those that may be placed next
abbrev pub invariant-loop-k : goal.invariant-loop-k
invariant-loop-k l = IsPlacingIn l.net l.placing × (length l.placing.order.items ≡ l._k) × HasReady l.net l.placing l.ready
