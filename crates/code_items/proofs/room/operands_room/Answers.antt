use Rattle.std.proofs.Common.{◌+◌, ◌-◌, ◌^◌, take, get_or, arith}
use Rattle.std.specs.List.{flat_map}
use Rattle.code_items.specs.Items.{operand_list_items}
use Rattle.code_items.specs.Room.{size_of_items}
use Rattle.code_items.proofs.Sizes.{sum_capped, items-size-more, size-nil}
use Rattle.code_items.proofs.room.operands_room.Goals as goal

pub loop-operands-init : goal.loop-operands-init
loop-operands-init c = omega (arith, size-nil)

pub loop-operands-preserved : goal.loop-operands-preserved
loop-operands-preserved c =
    sum_capped (2 ^ 64 - 1) c.saturating_add-room.result c.loop-operands.room c.operand_room.result (size_of_items (flat_map (operand_list_items c.args.field) (take c.loop-operands.operands-index c.args.table.now))) (size_of_items ((operand_list_items c.args.field) (get_or c.args.table.now c.loop-operands.operands-index c.operands-item.result))) (size_of_items (flat_map (operand_list_items c.args.field) (take (c.loop-operands.operands-index + 1) c.args.table.now)))
    c.saturating_add-room.ensures c.loop-operands.invariant (rw (← c.operands-item.is) c.operand_room.ensures) (items-size-more c.args.table.now c.loop-operands.operands-index c.operands-item.result (operand_list_items c.args.field) c.loop-operands-test.true)
