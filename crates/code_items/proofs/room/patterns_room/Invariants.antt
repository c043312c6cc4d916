use Rattle.std.proofs.Common.{◌≡◌, take}
use Rattle.std.specs.List.{flat_map}
use Rattle.code_items.specs.Items.{pattern_items}
use Rattle.code_items.specs.Room.{saturate, size_of_items}
use Rattle.code_items.proofs.room.patterns_room.Given as goal

abbrev pub invariant-loop-pattern : goal.invariant-loop-pattern
invariant-loop-pattern l = l.room ≡ saturate (size_of_items (flat_map pattern_items (take l.pattern-index l.patterns)))
