-- The tests compute.
use Rattle.std.proofs.Common.{refl}
use Rattle.node_program.specs.Value.{is_live_within}
use Rattle.test_support.specs.CutButterfly.{cut_butterfly}
use Rattle.worked_rows.proofs.tests.links.live_links.Goals as goal

pub returns : goal.returns
unfolding is_live_within cut_butterfly
returns c = refl
