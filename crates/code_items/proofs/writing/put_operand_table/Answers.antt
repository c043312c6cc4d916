use Rattle.code_items.specs.Items.{operand_list_items}
use Rattle.code_items.proofs.Joined.{items_more}
use Rattle.code_items.proofs.writing.put_operand_table.Goals as goal

pub loop-operands-preserved : goal.loop-operands-preserved
loop-operands-preserved c =
    rw (c.in_ok-put_operand_list.ensures, c.loop-operands.invariant, c.operands-item.is) (items_more c.args.table.now c.loop-operands.operands-index c.operands-item.result c.args.out.now.items (operand_list_items c.args.field) c.loop-operands-test.true)
