use Rattle.cut_witness.proofs.LeastSteps.{IsLeastAmong}
use Rattle.cut_witness.proofs.certifying.rate.Given as goal

-- the least value so far
abbrev pub invariant-loop-cert : goal.invariant-loop-cert
invariant-loop-cert l = IsLeastAmong l.certs l.cert-index l.least
