use Rattle.std.proofs.Common.{◌≡◌, take}
use Rattle.std.specs.Prelude.{◌||◌, filter}
use Rattle.net_model.specs.Walks.{leaves_source}
use Rattle.node_plans.specs.Listed.{is_live_by}
use Rattle.node_plans.proofs.live_operands.live_operands.Given as goal

-- those of the operands so far
abbrev pub invariant-loop-operand : goal.invariant-loop-operand
invariant-loop-operand l = l.kept.items ≡ filter (λ operand. leaves_source l.code.net l.link || is_live_by l.live operand.from) (take l.operand-index l.operand-items)
