-- Nothing has come of the generations begun.
use Rattle.relay_node.proofs.WorkLaws.{nothing}
use Rattle.relay_node.proofs.node.Node.begin.Goals as goal

pub returns-clause-nothing : goal.returns-clause-nothing
returns-clause-nothing g c =
    let inside = c.self.inside in
    nothing inside.plan _ inside.first inside.count inside.sums c.self.invariant.0 c.clear.new.self c.args.first c.args.count c.clear.ensures.work c.clear.ensures.nothing
