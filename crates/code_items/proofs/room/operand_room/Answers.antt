use Rattle.std.proofs.Common.{◌≡◌, ◌+◌, ◌-◌, ◌*◌, ◌^◌, min, length, ap, ◌∙◌, mul_comm}
use Rattle.gf_tables.specs.Product.{bytes_of_element}
use Rattle.code_items.specs.Items.{operand_list_items}
use Rattle.code_items.specs.Room.{size_of_items}
use Rattle.code_items.proofs.Sizes.{add_capped, operand_list-size}
use Rattle.code_items.proofs.room.operand_room.Goals as goal

pub returns : goal.returns
returns c =
    let operands = c.args.operands.now in
    let each = 2 + bytes_of_element c.args.field in
    let product : c.len.result * (2 + c.element_room.result) ≡ each * length operands = rw (c.len.ensures, c.element_room.ensures) (mul_comm (length operands) each) in
    let all : c.saturating_mul-all.result ≡ min (each * length operands) (2 ^ 64 - 1) = c.saturating_mul-all.ensures ∙ ap (λ n. min n (2 ^ 64 - 1)) product in
    add_capped (2 ^ 64 - 1) c.saturating_add.result c.saturating_mul-all.result (each * length operands) 2 (size_of_items (operand_list_items c.args.field operands))
    c.saturating_add.ensures all (operand_list-size c.args.field operands)
