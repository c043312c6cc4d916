-- The parts compute.
use Rattle.std.proofs.Common.{refl}
use Rattle.test_support.specs.OneLink.{one_link}
use Rattle.worked_rows.proofs.tests.texts.bytes_of_lines.Goals as goal

pub returns-clause-comment : goal.returns-clause-comment
unfolding one_link
returns-clause-comment c = refl
