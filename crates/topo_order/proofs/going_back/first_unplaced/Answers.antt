use Rattle.std.proofs.Common.{length, arith}
use Rattle.topo_order.proofs.BackSteps.{some_unplaced}
use Rattle.topo_order.proofs.going_back.first_unplaced.Goals as goal

pub unreachable-requires : goal.unreachable-requires
unreachable-requires c =
    let net = c.args.net.now in
    some_unplaced net.links (length net.nodes) c.args.placing.now c.requires.placing c.requires.unplaced
    (λ l within. c.loop-link.invariant l (omega (arith, c.len-link-end.ensures, c.loop-link-test.false)))
