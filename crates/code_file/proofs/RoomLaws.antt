-- How much room a file takes.
use Rattle.std.specs.Prelude.{◌≡◌, ◌+◌, ℕ, ◌-◌, ◌^◌, ◌++◌}
use Rattle.std.proofs.Common.{arith, ◌∙◌}
use Rattle.node_program.specs.declared.code.Code.{Code}
use Rattle.code_items.specs.DraftParts.{draft_items}
use Rattle.code_items.specs.Items.{operand_table_items, decoders_items}
use Rattle.code_items.specs.Room.{room_of, saturate, size_of_items}
use Rattle.code_items.proofs.Sizes.{sum_capped, size-append}
use Rattle.code_file.specs.Items.{code_mark, front_items, items_in}

-- the room of a file is that of its decoders and that of all before them
pub file_room : (version : ℕ) (code : Code) (result before decoders : ℕ) → result ≡ saturate (before + decoders)
    → before ≡ room_of (draft_items code_mark version code.net code.rate code.field code.operands)
    → decoders ≡ room_of (decoders_items version code.field code.decoders) → result ≡ room_of (items_in version code)
unfolding draft_items items_in
file_room version code result before decoders summed before_is decoders_is =
    let front = front_items code_mark version code.net code.rate code.field in
    let operands = operand_table_items code.field code.operands in
    let last = decoders_items version code.field code.decoders in
    sum_capped (2 ^ 64 - 1) result before decoders (size_of_items (front ++ operands)) (size_of_items last) (size_of_items (front ++ (operands ++ last))) summed before_is decoders_is
    (size-append front (operands ++ last) ∙ omega (arith, size-append operands last, size-append front operands))
