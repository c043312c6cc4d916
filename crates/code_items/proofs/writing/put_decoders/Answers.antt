use Rattle.code_items.specs.Items.{decoder_items}
use Rattle.code_items.proofs.Joined.{items_more}
use Rattle.code_items.proofs.writing.put_decoders.Goals as goal

pub loop-decoder-preserved : goal.loop-decoder-preserved
loop-decoder-preserved c =
    rw (c.in_ok-put_decoder.ensures, c.loop-decoder.invariant, c.decoder-item.is) (items_more c.args.decoders.now c.loop-decoder.decoder-index c.decoder-item.result c.args.out.now.items (decoder_items c.args.field) c.loop-decoder-test.true)
