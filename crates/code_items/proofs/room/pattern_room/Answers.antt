use Rattle.std.proofs.Common.{◌≡◌, ◌+◌, ◌-◌, ◌*◌, ◌^◌, min, length, ap, ◌∙◌, arith}
use Rattle.code_items.specs.Items.{pattern_items}
use Rattle.code_items.specs.Room.{size_of_items}
use Rattle.code_items.proofs.Sizes.{add_capped, pattern-size}
use Rattle.code_items.proofs.room.pattern_room.Goals as goal

pub returns : goal.returns
returns c =
    let pattern = c.args.pattern.now in
    let numbers : c.saturating_mul-numbers.result ≡ min (2 * length pattern.links) (2 ^ 64 - 1) = c.saturating_mul-numbers.ensures ∙ ap (λ n. min n (2 ^ 64 - 1)) (omega (arith, c.len.ensures)) in
    add_capped (2 ^ 64 - 1) c.saturating_add.result c.saturating_mul-numbers.result (2 * length pattern.links) (length c.bytes.result.now + 3) (size_of_items (pattern_items pattern))
    c.saturating_add.ensures numbers (omega (arith, pattern-size pattern, ap (λ name. length name) c.bytes.ensures.value))
