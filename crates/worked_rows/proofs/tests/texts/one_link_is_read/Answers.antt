-- The parts compute.
use Rattle.std.proofs.Common.{refl}
use Rattle.test_support.specs.OneLink.{one_link, wide_one_link}
use Rattle.worked_rows.proofs.tests.texts.one_link_is_read.Goals as goal

pub returns : goal.returns
unfolding one_link wide_one_link
returns c = record { any = refl; eight = refl; sixteen = refl }
