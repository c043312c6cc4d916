use Rattle.std.proofs.Common.{◌≡◌, map, take}
use Rattle.code_items.specs.Items.{name_item}
use Rattle.code_items.specs.Room.{saturate, size_of_items}
use Rattle.code_items.proofs.room.names_room.Given as goal

abbrev pub invariant-loop-name : goal.invariant-loop-name
invariant-loop-name l = l.room ≡ saturate (size_of_items (map name_item (take l.name-index l.names)))
