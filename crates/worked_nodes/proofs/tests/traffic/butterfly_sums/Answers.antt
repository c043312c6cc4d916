use Rattle.std.proofs.Common.{refl}
use Rattle.node_program.specs.Value.{is_live_within}
use Rattle.test_support.specs.Butterfly.{butterfly}
use Rattle.test_support.specs.CutButterfly.{cut_butterfly}
use Rattle.worked_nodes.proofs.tests.traffic.butterfly_sums.Goals as goal

pub returns-clause-both : goal.returns-clause-both
unfolding butterfly is_live_within
returns-clause-both c = refl

pub returns-clause-one : goal.returns-clause-one
unfolding cut_butterfly is_live_within
returns-clause-one c = refl
