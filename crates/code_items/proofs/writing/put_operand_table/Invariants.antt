use Rattle.std.proofs.Common.{◌≡◌, ◌++◌, take}
use Rattle.std.specs.List.{concat, flat_map}
use Rattle.code_items.specs.Items.{operand_list_items}
use Rattle.code_items.proofs.writing.put_operand_table.Given as goal

abbrev pub invariant-loop-operands : goal.invariant-loop-operands
invariant-loop-operands l = l.out.items ≡ l.fn.out.items ++ concat (flat_map (operand_list_items l.fn.field) (take l.operands-index l.table))
