use Rattle.std.proofs.Common.{◌≡◌, [], take}
use Rattle.code_items.specs.Items.{shared_table_items}
use Rattle.code_items.specs.Room.{saturate, size_of_items}
use Rattle.code_items.proofs.room.shared_decoders_room.Given as goal

abbrev pub invariant-loop-demand : goal.invariant-loop-demand
invariant-loop-demand l = l.room ≡ saturate (size_of_items (shared_table_items l.fn.field [] (take l.demand l.decoders)))
