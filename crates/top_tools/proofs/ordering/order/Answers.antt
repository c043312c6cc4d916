use Rattle.net_reader.specs.Text.{net_limit}
use Rattle.top_base.proofs.InspectingLaws.{inspects_had, inspects_lost}
use Rattle.top_base.specs.Inspecting.{OwesDone}
use Rattle.top_base.specs.Networks.{IsNetOf, RefusesNet}
use Rattle.top_tools.specs.Order.{IsOrdered}
use Rattle.top_tools.proofs.ordering.order.Goals as goal

pub returns-in-Ok : goal.returns-in-Ok
returns-in-Ok g c = inspects_had net_limit IsNetOf RefusesNet IsOrdered OwesDone c.args.path.now c.in-Ok.ordered.net c.say_order.result c.in-Ok.ensures.had c.say_order.ensures

pub returns-in-Err : goal.returns-in-Err
returns-in-Err g c = inspects_lost net_limit IsNetOf RefusesNet IsOrdered OwesDone c.args.path.now c.in-Err.refused c.in-Err.ensures.lost
