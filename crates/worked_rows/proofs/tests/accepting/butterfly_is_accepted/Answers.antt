-- The lemma on every block.
use Rattle.worked_rows.proofs.tests.TwoRows.{butterfly_accepted}
use Rattle.worked_rows.proofs.tests.accepting.butterfly_is_accepted.Goals as goal

pub returns : goal.returns
returns c = butterfly_accepted
