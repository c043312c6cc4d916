use Rattle.std.proofs.Common.{refl}
use Rattle.code_file.specs.Items.{code_mark}
use Rattle.code_file.proofs.RoomLaws.{file_room}
use Rattle.code_file.proofs.room.code_room_one.Goals as goal

pub returns : goal.returns
returns c =
    file_room 1 c.args.code.now c.saturating_add.result c.draft_room.result c.decoders_room-decoders.result c.saturating_add.ensures
    (rw (c.coding.ensures.net, c.coding.ensures.rate, c.coding.ensures.field, c.coding.ensures.operands) at (c.draft_room.ensures code_mark 1 refl))
    (rw (← c.as_slice.ensures) c.decoders_room-decoders.ensures)
