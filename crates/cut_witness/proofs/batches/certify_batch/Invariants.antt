use Rattle.cut_witness.proofs.BatchSteps.{AreBetween}
use Rattle.cut_witness.proofs.batches.certify_batch.Given as goal

-- the certificates of the demands so far
abbrev pub invariant-loop-number : goal.invariant-loop-number
invariant-loop-number g l = AreBetween l.net l.from l.number l.certs.items
