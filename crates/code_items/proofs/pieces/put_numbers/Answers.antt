use Rattle.code_items.specs.Items.{number_item}
use Rattle.code_items.proofs.Joined.{one_item_more}
use Rattle.code_items.proofs.pieces.put_numbers.Goals as goal

pub loop-number-preserved : goal.loop-number-preserved
loop-number-preserved c =
    rw (c.in_ok-put_number.ensures, c.loop-number.invariant) (one_item_more c.args.numbers.now c.loop-number.number-index 0 c.args.out.now.items number_item c.loop-number-test.true)
