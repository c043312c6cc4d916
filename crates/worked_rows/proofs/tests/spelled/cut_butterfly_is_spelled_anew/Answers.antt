-- The items compute.
use Rattle.std.proofs.Common.{refl}
use Rattle.code_file.specs.PartItems.{shared_table_items}
use Rattle.code_file.specs.Items.{bytes_in, items_in, front_items}
use Rattle.test_support.specs.CutButterfly.{cut_butterfly}
use Rattle.worked_rows.proofs.tests.spelled.cut_butterfly_is_spelled_anew.Goals as goal

pub returns : goal.returns
unfolding bytes_in items_in front_items shared_table_items cut_butterfly
returns c = refl
