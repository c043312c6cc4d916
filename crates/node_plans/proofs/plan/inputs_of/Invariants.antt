use Rattle.std.proofs.Common.{◌≡◌, map, take}
use Rattle.node_plans.specs.Plans.{input_place}
use Rattle.node_plans.proofs.plan.inputs_of.Given as goal

-- the places of the operands so far
abbrev pub invariant-loop-operand : goal.invariant-loop-operand
invariant-loop-operand l = l.inputs.items ≡ map (λ operand. input_place l.plan operand.from) (take l.operand-index l.operands)
