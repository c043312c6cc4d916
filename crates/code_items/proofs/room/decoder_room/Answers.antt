use Rattle.std.proofs.Common.{◌≡◌, ◌-◌, ◌*◌, ◌^◌, min, length, ap, ◌∙◌, arith, mul_comm}
use Rattle.gf_tables.specs.Product.{bytes_of_element}
use Rattle.code_items.specs.Items.{decoder_items}
use Rattle.code_items.specs.Room.{size_of_items}
use Rattle.code_items.proofs.Sizes.{sum_capped, decoder-size}
use Rattle.code_items.proofs.room.decoder_room.Goals as goal

pub returns : goal.returns
returns c =
    let decoder = c.args.decoder.now in
    let each = bytes_of_element c.args.field in
    let product : c.len-2.result * c.element_room.result ≡ each * length decoder.entries = rw (c.len-2.ensures, c.element_room.ensures) (mul_comm (length decoder.entries) each) in
    let links : c.saturating_mul-links.result ≡ min (2 * length decoder.links) (2 ^ 64 - 1) = c.saturating_mul-links.ensures ∙ ap (λ n. min n (2 ^ 64 - 1)) (omega (arith, c.len.ensures)) in
    let entries : c.saturating_mul-entries.result ≡ min (each * length decoder.entries) (2 ^ 64 - 1) = c.saturating_mul-entries.ensures ∙ ap (λ n. min n (2 ^ 64 - 1)) product in
    sum_capped (2 ^ 64 - 1) c.saturating_add.result c.saturating_mul-links.result c.saturating_mul-entries.result (2 * length decoder.links) (each * length decoder.entries) (size_of_items (decoder_items c.args.field decoder))
    c.saturating_add.ensures links entries (decoder-size c.args.field decoder)
