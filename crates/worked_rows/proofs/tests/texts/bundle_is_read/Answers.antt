use Rattle.std.specs.Fmt.{digits}
use Rattle.std.proofs.Common.{refl}
use Rattle.worked_rows.proofs.tests.texts.bundle_is_read.Goals as goal

pub returns : goal.returns
unfolding digits
returns c = refl
