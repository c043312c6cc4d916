use Rattle.std.proofs.Common.{◌+◌, ◌-◌, ◌^◌, length, map, take, ap, arith}
use Rattle.code_items.specs.Items.{name_item}
use Rattle.code_items.specs.Room.{size_of_items}
use Rattle.code_items.proofs.Sizes.{add_capped, item-size-more, size-nil}
use Rattle.code_items.proofs.room.names_room.Goals as goal

pub loop-name-init : goal.loop-name-init
loop-name-init c = omega (arith, size-nil)

pub loop-name-preserved : goal.loop-name-preserved
loop-name-preserved c =
    add_capped (2 ^ 64 - 1) c.saturating_add-room.result c.loop-name.room (size_of_items (map name_item (take c.loop-name.name-index c.args.names.now))) (1 + length c.bytes.result.now) (size_of_items (map name_item (take (c.loop-name.name-index + 1) c.args.names.now)))
    c.saturating_add-room.ensures c.loop-name.invariant (omega (arith, item-size-more c.args.names.now c.loop-name.name-index c.name-item.result name_item c.loop-name-test.true, ap (λ name. length name) c.name-item.is, ap (λ name. length name) c.bytes.ensures.value))
