use Rattle.std.proofs.Common.{◌≡◌, ◌+◌, ◌-◌, ◌*◌, ℕ, ap, arith, drop, take, ◌∙◌}
use Rattle.vector_headers.proofs.fabric_parts.row_at.Goals as goal

pub returns : goal.returns
returns c =
    let start = c.args.place * 1024 in
    let room : start + 1024 - start ≡ 1024 = omega arith in
    c.copy_from_slice.ensures.after ∙ ap (λ (n : ℕ). take n (drop start c.args.block.now)) room
