use Rattle.std.proofs.Common.{refl}
use Rattle.node_program.specs.Value.{is_live_within}
use Rattle.test_support.specs.OneLink.{doubled_one_link}
use Rattle.worked_nodes.proofs.tests.traffic.one_link_keys.Goals as goal

pub returns : goal.returns
unfolding doubled_one_link is_live_within
returns c = record { keys = refl }
