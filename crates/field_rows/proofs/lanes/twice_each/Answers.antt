use Rattle.std.proofs.Common.{◌≡◌, ◌<◌, ◌+◌, ◌-◌, ◌*◌, ◌/◌, ◌%◌, ℕ, length, get_or, ◌∙◌, sym, ap, arith, take, map, ◌++◌, length-take-le, get_or-take}
use Rattle.std.specs.List.{range_with_len}
use Rattle.std.proofs.lemmas.List.FromFn.{get_or-map-range_with_len}
use Rattle.std.proofs.lemmas.List.{get_or_append_left, get_or-append_right}
use Rattle.field_rows.proofs.lanes.twice_each.Goals as goal

pub returns : goal.returns
returns c =
    let first = take 16 c.args.lower.now in
    let second = take 16 c.args.upper.now in
    let long_first : length first ≡ 16 = length-take-le 16 _ (omega arith) in
    let at : ℕ → ℕ = λ p. get_or (first ++ second) p 0 in
    let picked : (k : ℕ) → k < 64 → get_or (map (λ j. at (16 * (j / 32) + j % 16)) (range_with_len 0 64)) k 0 ≡ at (16 * (k / 32) + k % 16) =
    λ k l. get_or-map-range_with_len (λ j. at (16 * (j / 32) + j % 16)) 0 64 k k 0 l (omega arith)
    in
    record {
      repeats = record { at = λ half k h l. picked (32 * half + k) (omega arith) ∙ ap at (omega arith) ∙ sym (picked (32 * half + k % 16) (omega arith)) };
      lower = λ k l. picked k (omega arith) ∙ ap at (omega arith) ∙ get_or_append_left first second 0 k (omega arith) ∙ get_or-take 16 _ k 0 l;
      upper = λ k l.
          let back : 16 * ((32 + k) / 32) + (32 + k) % 16 - 16 ≡ k = omega arith in
          picked (32 + k) (omega arith) ∙ get_or-append_right first second 16 (16 * ((32 + k) / 32) + (32 + k) % 16) 0 long_first (omega arith) ∙ ap (λ p. get_or second p 0) back ∙ get_or-take 16 _ k 0 l;
    }
