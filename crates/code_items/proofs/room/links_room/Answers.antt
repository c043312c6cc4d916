use Rattle.std.proofs.Common.{◌+◌, ◌-◌, ◌^◌, length, take, get_or, ap, arith}
use Rattle.std.specs.List.{flat_map}
use Rattle.code_items.specs.Items.{link_items}
use Rattle.code_items.specs.Room.{size_of_items}
use Rattle.code_items.proofs.Sizes.{add_capped, items-size-more, size-nil, link-size}
use Rattle.code_items.proofs.room.links_room.Goals as goal

pub loop-link-init : goal.loop-link-init
loop-link-init c = omega (arith, size-nil)

pub loop-link-preserved : goal.loop-link-preserved
loop-link-preserved c =
    add_capped (2 ^ 64 - 1) c.saturating_add-room.result c.loop-link.room (size_of_items (flat_map link_items (take c.loop-link.link-index c.args.links.now))) (5 + length c.bytes.result.now) (size_of_items (flat_map link_items (take (c.loop-link.link-index + 1) c.args.links.now)))
    c.saturating_add-room.ensures c.loop-link.invariant (omega (arith, items-size-more c.args.links.now c.loop-link.link-index c.link-item.result link_items c.loop-link-test.true, link-size (get_or c.args.links.now c.loop-link.link-index c.link-item.result), ap (λ link. length link.name) c.link-item.is, ap (λ name. length name) c.bytes.ensures.value))
