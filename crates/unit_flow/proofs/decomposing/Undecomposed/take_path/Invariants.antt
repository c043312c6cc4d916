use Rattle.std.proofs.Common.{length}
use Rattle.std.specs.Prelude.{count_by}
use Rattle.std.specs.List.{range_with_len}
use Rattle.unit_flow.specs.Residual.{is_used}
use Rattle.unit_flow.proofs.TakingSteps.{IsTaking}
use Rattle.unit_flow.proofs.decomposing.Undecomposed.take_path.Given as goal

-- the path as far as this node
abbrev pub invariant-loop-node : goal.invariant-loop-node
invariant-loop-node l = IsTaking l.net l.initial.self l.self l.path.items l.node

-- how many links are still used
abbrev pub decreases-loop-node : goal.decreases-loop-node
decreases-loop-node l = count_by (is_used l.self.residual.states) (range_with_len 0 (length l.net.links))
