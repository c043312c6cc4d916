use Rattle.cut_witness.proofs.LeastSteps.{least_more, least_of_all}
use Rattle.cut_witness.proofs.certifying.rate.Goals as goal

pub loop-cert-preserved : goal.loop-cert-preserved
loop-cert-preserved c =
    least_more c.args.certs.now c.loop-cert.cert-index c.loop-cert.least c.min-least.result c.cert-item.result c.loop-cert-test.true c.cert-item.is c.min-least.ensures c.loop-cert.invariant

pub returns : goal.returns
returns c = least_of_all c.args.certs.now c.loop-cert.cert-index c.loop-cert.least c.loop-cert-test.false c.loop-cert.invariant
