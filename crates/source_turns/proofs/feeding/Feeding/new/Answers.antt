use Rattle.std.specs.Prelude.{◌≤◌, ◌<◌, ◌*◌, ◌/◌}
use Rattle.std.proofs.Common.{◌≡◌, sym, ap, ◌∙◌, arith, vec_len}
use Rattle.std.proofs.Math.Nat.{div-mul-le_self, mul-div_left, one-le-mul}
use Rattle.std.proofs.lemmas.Nat.{le-div}
use Rattle.generation_frame.specs.Blocks.{capacity}
use Rattle.source_turns.proofs.feeding.Feeding.new.Goals as goal

pub cap-room-requires : goal.cap-room-requires
cap-room-requires g c =
    let job = g.T.BlockTurns.job c.args.turns in
    record { some_rate = omega (arith, c.rate-rate.ensures, job.some_rate); low_rate = omega (arith, c.rate-rate.ensures, job.low_rate) }

pub invariant_of-result : goal.invariant_of-result
invariant_of-result g c =
    let job = g.T.BlockTurns.job c.args.turns in
    let rate = c.rate-rate.result in
    let room = c.cap-room.result in
    let blocks = 65536 / room in
    let bytes = c.in_ok-vec.field-0 in
    let some_rate : 1 ≤ rate = omega (arith, c.rate-rate.ensures, job.some_rate) in
    let low_rate : rate ≤ 32 = omega (arith, c.rate-rate.ensures, job.low_rate) in
    let size : room ≡ capacity rate = c.cap-room.ensures in
    let some : 0 < capacity rate = omega (arith, some_rate) in
    let one : 1 ≤ blocks = le-div 1 65536 room (omega (arith, size, some)) (omega (arith, size, low_rate)) in
    let long : vec_len bytes ≡ blocks * room = c.in_ok-vec.ensures.len in
    let whole : vec_len bytes ≡ blocks * capacity rate = long ∙ ap (λ n. blocks * n) size in
    record {
      same_rate = sym c.rate-rate.ensures;
      some_rate = some_rate;
      low_rate = low_rate;
      some = omega (arith, long, one-le-mul {a = blocks} {b = room} one (omega (arith, size, some)));
      few = omega (arith, long, div-mul-le_self 65536 room);
      whole = ap (λ n. n / capacity rate * capacity rate) whole ∙ ap (λ n. n * capacity rate) (mul-div_left blocks some) ∙ sym whole;
      within = omega arith;
      size = c.in_ok-vec-2.ensures.len;
    }
