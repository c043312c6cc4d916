use Rattle.std.proofs.Common.{◌∙◌}
use Rattle.unit_flow.proofs.BeginSteps.{IsFlowToSink-none}
use Rattle.unit_flow.proofs.flow.max_flow_along.Goals as goal

pub max_flow_from-requires-clause-begun : goal.max_flow_from-requires-clause-begun
max_flow_from-requires-clause-begun g c = IsFlowToSink-none c.args.net.now c.args.demand c.of-none.result (c.of-none.ensures ∙ c.new.ensures.items)
