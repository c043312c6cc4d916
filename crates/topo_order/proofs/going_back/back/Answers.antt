use Rattle.std.proofs.Common.{length}
use Rattle.topo_order.proofs.BackSteps.{unplaced_before}
use Rattle.topo_order.proofs.going_back.back.Goals as goal

pub returns-clause-within : goal.returns-clause-within
returns-clause-within c =
    let net = c.args.net.now in
    (unplaced_before net.links (length net.nodes) c.args.placing.now c.requires.placing c.requires.stuck c.args.link c.requires.within c.requires.unplaced
    c.tail.result c.index.result.now c.tail.ensures.value c.tail.ensures.below c.index.ensures).0

pub returns-clause-unplaced : goal.returns-clause-unplaced
returns-clause-unplaced c =
    let net = c.args.net.now in
    (unplaced_before net.links (length net.nodes) c.args.placing.now c.requires.placing c.requires.stuck c.args.link c.requires.within c.requires.unplaced
    c.tail.result c.index.result.now c.tail.ensures.value c.tail.ensures.below c.index.ensures).1

pub returns-clause-leads : goal.returns-clause-leads
returns-clause-leads c =
    let net = c.args.net.now in
    (unplaced_before net.links (length net.nodes) c.args.placing.now c.requires.placing c.requires.stuck c.args.link c.requires.within c.requires.unplaced
    c.tail.result c.index.result.now c.tail.ensures.value c.tail.ensures.below c.index.ensures).2
