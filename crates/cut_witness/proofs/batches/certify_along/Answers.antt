use Rattle.std.proofs.Common.{◌∙◌}
use Rattle.unit_flow.proofs.BeginSteps.{IsFlowToSink-none}
use Rattle.cut_witness.proofs.batches.certify_along.Goals as goal

pub certify_from-requires-clause-begun : goal.certify_from-requires-clause-begun
certify_from-requires-clause-begun g c = IsFlowToSink-none c.args.net.now c.args.demand c.of-none.result (c.of-none.ensures ∙ c.new.ensures.items)
