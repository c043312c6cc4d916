use Rattle.code_items.specs.Items.{operand_items}
use Rattle.code_items.proofs.Joined.{items_more}
use Rattle.code_items.proofs.writing.put_operands.Goals as goal

pub loop-operand-preserved : goal.loop-operand-preserved
loop-operand-preserved c =
    rw (c.in_ok-put_operand.ensures, c.loop-operand.invariant) (items_more c.args.operands.now c.loop-operand.operand-index _ c.args.out.now.items (operand_items c.args.field) c.loop-operand-test.true)
