use Rattle.unit_flow.proofs.BeginSteps.{IsBegun}
use Rattle.unit_flow.proofs.beginning.use_paths.Given as goal

-- the used links are a flow of so many units
abbrev pub invariant-loop-path : goal.invariant-loop-path
invariant-loop-path l = IsBegun l.net l.initial.residual.demand l.residual l.entered l.value
