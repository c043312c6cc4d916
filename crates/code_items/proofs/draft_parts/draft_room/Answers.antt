use Rattle.std.proofs.Common.{◌≡◌, ◌-◌, ◌^◌, min}
use Rattle.code_items.specs.DraftParts.{draft_items}
use Rattle.code_items.specs.Items.{front_items, operand_table_items}
use Rattle.code_items.specs.Room.{size_of_items}
use Rattle.code_items.proofs.Sizes.{sum_capped, size-append}
use Rattle.code_items.proofs.draft_parts.draft_room.Goals as goal

pub returns : goal.returns
unfolding draft_items
returns c = λ mark version four.
    let coding = c.args.coding in
    let cap = 2 ^ 64 - 1 in
    let front = front_items mark version coding.net.now coding.rate coding.field in
    let table = operand_table_items coding.field coding.operands.now in
    let operands : c.operands_room.result ≡ min (size_of_items table) cap = rw (← c.as_slice.ensures) c.operands_room.ensures in
    sum_capped cap c.saturating_add.result c.front_room-front.result c.operands_room.result (size_of_items front) (size_of_items table) _
    c.saturating_add.ensures (c.front_room-front.ensures mark version coding.rate coding.field four) operands (size-append front table)
