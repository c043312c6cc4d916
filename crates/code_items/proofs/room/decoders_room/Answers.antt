use Rattle.std.proofs.Common.{◌+◌, ◌-◌, ◌^◌, take, get_or, arith}
use Rattle.std.specs.List.{flat_map}
use Rattle.code_items.specs.Items.{decoder_items}
use Rattle.code_items.specs.Room.{size_of_items}
use Rattle.code_items.proofs.Sizes.{sum_capped, items-size-more, size-nil}
use Rattle.code_items.proofs.room.decoders_room.Goals as goal

pub loop-decoder-init : goal.loop-decoder-init
loop-decoder-init c = omega (arith, size-nil)

pub loop-decoder-preserved : goal.loop-decoder-preserved
loop-decoder-preserved c =
    sum_capped (2 ^ 64 - 1) c.saturating_add-room.result c.loop-decoder.room c.decoder_room.result (size_of_items (flat_map (decoder_items c.args.field) (take c.loop-decoder.decoder-index c.args.decoders.now))) (size_of_items ((decoder_items c.args.field) (get_or c.args.decoders.now c.loop-decoder.decoder-index c.decoder-item.result))) (size_of_items (flat_map (decoder_items c.args.field) (take (c.loop-decoder.decoder-index + 1) c.args.decoders.now)))
    c.saturating_add-room.ensures c.loop-decoder.invariant (rw (← c.decoder-item.is) c.decoder_room.ensures) (items-size-more c.args.decoders.now c.loop-decoder.decoder-index c.decoder-item.result (decoder_items c.args.field) c.loop-decoder-test.true)
