-- The items compute.
use Rattle.std.proofs.Common.{refl}
use Rattle.code_file.specs.Items.{bytes_in, items_in, front_items}
use Rattle.test_support.specs.OneLink.{wide_one_link}
use Rattle.worked_rows.proofs.tests.spelled.wide_one_link_is_spelled.Goals as goal

pub returns : goal.returns
unfolding bytes_in items_in front_items wide_one_link
returns c = refl
