use Rattle.std.proofs.Common.{◌≡◌, map, take}
use Rattle.node_plans.specs.Plans.{input_place}
use Rattle.node_plans.proofs.plan.sum_table.Given as goal

-- the inputs of the links so far
abbrev pub invariant-loop-operands : goal.invariant-loop-operands
invariant-loop-operands l = l.sums.items ≡ map (map (λ operand. input_place l.plan operand.from)) (take l.operands-index l.operands-items)
