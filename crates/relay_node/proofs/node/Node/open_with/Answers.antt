-- Nothing has come before any generation.
use Rattle.std.proofs.Common.{refl}
use Rattle.relay_node.proofs.WorkLaws.{nothing}
use Rattle.relay_node.proofs.node.Node.open_with.Goals as goal

pub returns-clause-nothing : goal.returns-clause-nothing
returns-clause-nothing g c =
    let plan = c.in_ok-plan.plan in
    let sums = c.in_ok-plan.sums in
    nothing plan c.args.wiring.now.places 0 0 sums c.in_ok-plan.ensures.node sums 0 0
    (record { inputs = refl; sums = refl; generations = refl }) c.in_ok-plan.ensures.nothing
