use Rattle.code_items.specs.Items.{element_item}
use Rattle.code_items.proofs.Joined.{one_item_more}
use Rattle.code_items.proofs.pieces.put_elements.Goals as goal

pub loop-element-preserved : goal.loop-element-preserved
loop-element-preserved c =
    rw (c.in_ok-put_element.ensures, c.loop-element.invariant) (one_item_more c.args.elements.now c.loop-element.element-index 0 c.args.out.now.items (element_item c.args.field) c.loop-element-test.true)
