use Rattle.std.proofs.Common.{◌≡◌, ◌∙◌, ◌+◌, ◌-◌, ◌*◌, ◌≤◌, ◌++◌, [], List, ℕ, ap, sym, length, take, get_or, arith}
use Rattle.std.proofs.Math.Path.{ap₂}
use Rattle.std.proofs.Math.Seq.{take-add}
use Rattle.std.proofs.lemmas.Slice.{take-put_mid}
use Rattle.vector_headers.proofs.blind.Blind.fill_row.Goals as goal

pub loop-piece-preserved : goal.loop-piece-preserved
loop-piece-preserved g c = λ block admitted.
    let piece = c.loop-piece.piece in
    let at = piece * 128 in
    let into = c.loop-piece.into in
    let new = c.fill_piece.new.into in
    let row = get_or block c.args.k [] in
    let next : (piece + 1) * 128 ≡ at + length new = omega arith in
    let within : at ≤ length into = omega arith in
    let joined : at + 128 ≡ (piece + 1) * 128 = omega arith in
    take-put_mid at (at + 128 - at) into new ((piece + 1) * 128) next within
    ∙ ap₂ (λ (xs ys : List ℕ). xs ++ ys) (c.loop-piece.invariant block admitted) (c.fill_piece.ensures block admitted)
    ∙ sym (take-add at 128 row) ∙ ap (λ n. take n row) joined
