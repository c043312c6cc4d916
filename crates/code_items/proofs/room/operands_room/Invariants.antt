use Rattle.std.proofs.Common.{◌≡◌, take}
use Rattle.std.specs.List.{flat_map}
use Rattle.code_items.specs.Items.{operand_list_items}
use Rattle.code_items.specs.Room.{saturate, size_of_items}
use Rattle.code_items.proofs.room.operands_room.Given as goal

abbrev pub invariant-loop-operands : goal.invariant-loop-operands
invariant-loop-operands l = l.room ≡ saturate (size_of_items (flat_map (operand_list_items l.fn.field) (take l.operands-index l.table)))
