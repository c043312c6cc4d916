use Rattle.std.proofs.Common.{◌≡◌, take}
use Rattle.std.specs.List.{flat_map}
use Rattle.code_items.specs.Items.{decoder_items}
use Rattle.code_items.specs.Room.{saturate, size_of_items}
use Rattle.code_items.proofs.room.decoders_room.Given as goal

abbrev pub invariant-loop-decoder : goal.invariant-loop-decoder
invariant-loop-decoder l = l.room ≡ saturate (size_of_items (flat_map (decoder_items l.fn.field) (take l.decoder-index l.decoders)))
