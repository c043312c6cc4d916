-- The parts compute.
use Rattle.std.proofs.Common.{refl}
use Rattle.test_support.specs.Butterfly.{butterfly}
use Rattle.test_support.specs.CutButterfly.{cut_butterfly}
use Rattle.worked_rows.proofs.tests.texts.butterfly_is_read.Goals as goal

pub returns : goal.returns
unfolding butterfly cut_butterfly
returns c = record { uncut = refl; cut = refl }
