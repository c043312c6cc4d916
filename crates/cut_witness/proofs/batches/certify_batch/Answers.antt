use Rattle.std.proofs.Common.{◌∙◌, ap, length, arith}
use Rattle.failure_patterns.specs.Demands.{number_of}
use Rattle.cut_witness.proofs.BatchSteps.{one_more}
use Rattle.cut_witness.proofs.BeginSteps.{number_of-demand_of}
use Rattle.cut_witness.proofs.batches.certify_batch.Goals as goal

pub certify_next-requires-clause-next : goal.certify_next-requires-clause-next
certify_next-requires-clause-next g c =
    omega (arith, ap (number_of c.args.net.now) c.demand_at-demand.ensures.value ∙ number_of-demand_of c.args.net.now c.loop-number.number, c.loop-number.invariant.count, ap length c.deref.ensures.value)

pub loop-number-preserved : goal.loop-number-preserved
loop-number-preserved g c =
    one_more c.args.net.now c.args.from c.loop-number.number c.loop-number.certs.items c.push.new.self.items c.in_ok-cert.cert c.loop-number.invariant c.in_ok-cert.ensures.certificate
    (c.in_ok-cert.ensures.demand ∙ c.demand_at-demand.ensures.value) c.in_ok-push.ensures.items
