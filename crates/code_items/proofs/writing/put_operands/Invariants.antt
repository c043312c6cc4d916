use Rattle.std.proofs.Common.{◌≡◌, ◌++◌, take}
use Rattle.std.specs.List.{concat, flat_map}
use Rattle.code_items.specs.Items.{operand_items}
use Rattle.code_items.proofs.writing.put_operands.Given as goal

abbrev pub invariant-loop-operand : goal.invariant-loop-operand
invariant-loop-operand l = l.out.items ≡ l.fn.out.items ++ concat (flat_map (operand_items l.fn.field) (take l.operand-index l.operands))
