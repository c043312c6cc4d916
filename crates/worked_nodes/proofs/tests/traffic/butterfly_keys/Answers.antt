use Rattle.std.proofs.Common.{refl}
use Rattle.node_program.specs.Value.{is_live_within}
use Rattle.test_support.specs.Butterfly.{butterfly}
use Rattle.test_support.specs.CutButterfly.{cut_butterfly}
use Rattle.worked_nodes.proofs.tests.traffic.butterfly_keys.Goals as goal

pub returns-clause-all : goal.returns-clause-all
unfolding butterfly is_live_within
returns-clause-all c = refl

pub returns-clause-live : goal.returns-clause-live
unfolding cut_butterfly is_live_within
returns-clause-live c = refl

pub returns-clause-cut : goal.returns-clause-cut
unfolding cut_butterfly is_live_within
returns-clause-cut c = refl
