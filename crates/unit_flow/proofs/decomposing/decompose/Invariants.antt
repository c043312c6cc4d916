use Rattle.std.proofs.Common.{◌-◌}
use Rattle.unit_flow.proofs.TakingSteps.{IsDecomposition}
use Rattle.unit_flow.proofs.decomposing.decompose.Given as goal

-- the paths so far
abbrev pub invariant-loop-k : goal.invariant-loop-k
invariant-loop-k l = IsDecomposition l.net l.value l.initial.undecomposed l.undecomposed l.paths.items (l.value - l._k)
