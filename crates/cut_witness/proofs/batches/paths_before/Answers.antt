use Rattle.std.proofs.Common.{◌<◌, ◌-◌, ◌∙◌, length, ap, arith}
use Rattle.failure_patterns.specs.Demands.{number_of}
use Rattle.cut_witness.proofs.BeginSteps.{IsFlowToSink-certificate, IsFlowToSink-held}
use Rattle.cut_witness.proofs.batches.paths_before.Goals as goal

pub returns-then-none-from : goal.returns-then-none-from
returns-then-none-from c =
    let net = c.args.net.now in
    IsFlowToSink-held net c.args.demand c.args.from (length c.args.certs.now) c.number_of-none.result c.args.held.now c.requires.demand.pattern c.requires.next
    (c.number_of-none.ensures.value ∙ ap (number_of net) c.without_failures.ensures) c.if-none-from.true c.requires.held

pub returns-else-none-from : goal.returns-else-none-from
returns-else-none-from c =
    let net = c.args.net.now in
    let value = c.number_of-none.ensures.value ∙ ap (number_of net) c.without_failures.ensures in
    let within : c.number_of-none.result - c.args.from < length c.args.certs.now = omega arith in
    IsFlowToSink-certificate net c.args.demand c.args.from c.number_of-none.result c.args.certs.now c.index-certs-none.result (c.number_of-none.ensures.back ∙ c.without_failures.ensures) c.if-none-from.false within
    c.requires.certificates
