use Rattle.code_items.specs.Items.{name_item}
use Rattle.code_items.proofs.Joined.{one_item_more}
use Rattle.code_items.proofs.pieces.put_names.Goals as goal

pub loop-name-preserved : goal.loop-name-preserved
loop-name-preserved c =
    rw (c.in_ok-put_name.ensures, c.loop-name.invariant, c.name-item.is) (one_item_more c.args.names.now c.loop-name.name-index c.name-item.result c.args.out.now.items name_item c.loop-name-test.true)
