-- Blocks that are put one behind the other.
use Rattle.std.specs.Prelude.{◌≤◌}
use Rattle.std.proofs.Common.{◌≡◌, ◌+◌, ◌*◌, ◌++◌, ℕ, List, length, take, ap, ◌∙◌, arith}
use Rattle.std.proofs.Math.Nat.{add-mul}
use Rattle.std.proofs.Math.Seq.{take-append-add, take-append_seam}
use Rattle.std.proofs.lemmas.List.{length-take-le}

-- a block that is put behind those that stand there
pub put-block : (blocks block rest before : List ℕ) (place size : ℕ) → place * size ≤ length blocks → length block ≡ size → take (place * size) blocks ≡ before
    → take ((place + 1) * size) (take (place * size) blocks ++ (block ++ rest)) ≡ before ++ block
put-block blocks block rest before place size room long is =
    let front : List ℕ = take (place * size) blocks in
    let next : (place + 1) * size ≡ place * size + 1 * size = add-mul place 1 size in
    let end : (place + 1) * size ≡ length front + length block = omega (arith, length-take-le (place * size) blocks room, next, long) in
    ap (λ n. take n (front ++ (block ++ rest))) end ∙ take-append-add front (block ++ rest) (length block)
    ∙ ap (λ end. front ++ end) (take-append_seam block rest) ∙ ap (λ front. front ++ block) is
