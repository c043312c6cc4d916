use Rattle.std.proofs.Common.{◌+◌, ◌-◌, ◌^◌, take, get_or, arith}
use Rattle.std.specs.List.{flat_map}
use Rattle.code_items.specs.Items.{pattern_items}
use Rattle.code_items.specs.Room.{size_of_items}
use Rattle.code_items.proofs.Sizes.{sum_capped, items-size-more, size-nil}
use Rattle.code_items.proofs.room.patterns_room.Goals as goal

pub loop-pattern-init : goal.loop-pattern-init
loop-pattern-init c = omega (arith, size-nil)

pub loop-pattern-preserved : goal.loop-pattern-preserved
loop-pattern-preserved c =
    sum_capped (2 ^ 64 - 1) c.saturating_add-room.result c.loop-pattern.room c.pattern_room.result (size_of_items (flat_map pattern_items (take c.loop-pattern.pattern-index c.args.patterns.now))) (size_of_items (pattern_items (get_or c.args.patterns.now c.loop-pattern.pattern-index c.pattern-item.result))) (size_of_items (flat_map pattern_items (take (c.loop-pattern.pattern-index + 1) c.args.patterns.now)))
    c.saturating_add-room.ensures c.loop-pattern.invariant (rw (← c.pattern-item.is) c.pattern_room.ensures) (items-size-more c.args.patterns.now c.loop-pattern.pattern-index c.pattern-item.result pattern_items c.loop-pattern-test.true)
