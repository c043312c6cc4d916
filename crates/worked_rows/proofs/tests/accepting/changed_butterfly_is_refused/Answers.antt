-- The lemma on a block.
use Rattle.worked_rows.proofs.tests.TwoRows.{changed_butterfly_refused}
use Rattle.worked_rows.proofs.tests.accepting.changed_butterfly_is_refused.Goals as goal

pub returns : goal.returns
returns c = changed_butterfly_refused
