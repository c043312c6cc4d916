use Rattle.std.proofs.Common.{◌≡◌, length, arith}
use Rattle.topo_order.proofs.OrderLaws.{IsAcyclic-from_whole}
use Rattle.topo_order.proofs.ordering.order_along.Goals as goal

pub returns-clause-acyclic : goal.returns-clause-acyclic
returns-clause-acyclic c =
    let links = c.args.net.now.links in
    let order = c.loop-k.placing.order.items in
    let placing = c.loop-k.invariant.0 in
    let whole : length order ≡ length links = omega (arith, c.loop-k.invariant.1, c.len-k-end.ensures, c.loop-k-test.false, c.loop-k.auto._k-end) in
    IsAcyclic-from_whole links order placing.sound whole
