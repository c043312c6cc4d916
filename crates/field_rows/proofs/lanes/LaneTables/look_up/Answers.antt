use Rattle.std.proofs.Common.{◌≡◌, ◌/◌, ◌^◌, ◌<◌, ◌+◌, ◌*◌, ◌∙◌, ℕ, List, length, get_or, arith, w8, Fits, bit_and, bit_xor, ap, sym, replicate}
use Rattle.std.proofs.lemmas.Nat.{and_le_r, and_mask}
use Rattle.std.proofs.lemmas.Simd.{Each1-all, Each1-weaker, below_from_Fits, length-zip2, get_or-zip2, swz_l}
use Rattle.std.specs.Simd.Lanes.{Each1, zip2}
use Rattle.field_rows.proofs.LookUps.{places_fit, looked_up, length-looked_up}
use Rattle.field_rows.proofs.lanes.LaneTables.look_up.Goals as goal

abbrev down : ℕ → ℕ → ℕ
down x y = x / 2 ^ y

low_small : (v : List ℕ) → Each1 (λ x. bit_and x 15 < 16) v
low_small v = Each1-all (λ x. bit_and x 15 < 16) (λ x. omega (arith, and_le_r x 15)) v

high_small : (v : List ℕ) → Each1 (Fits w8) v → Each1 (λ x. down x 4 < 16) v
high_small v fits = Each1-weaker (λ x. x < 256) (λ x. down x 4 < 16) (λ x l. omega arith) v (below_from_Fits w8 v fits)

pub swizzle : goal.swizzle
swizzle c = let v = c.args.bytes in places_fit bit_and 15 v c.fits-bytes.0 (low_small v)

pub swizzle-2 : goal.swizzle-2
swizzle-2 c = let v = c.args.bytes in places_fit down 4 v c.fits-bytes.0 (high_small v c.fits-bytes.1)

pub returns : goal.returns
returns c =
    let v = c.args.bytes in
    let low = c.args.self.now.low in
    let high = c.args.self.now.high in
    let lows = swz_l w8 16 low 0 (zip2 bit_and v (replicate 64 15)) in
    let highs = swz_l w8 16 high 0 (zip2 down v (replicate 64 4)) in
    let long_low : length lows ≡ 64 = length-looked_up bit_and 15 v c.fits-bytes.0 (low_small v) low in
    let long_high : length highs ≡ 64 = length-looked_up down 4 v c.fits-bytes.0 (high_small v c.fits-bytes.1) high in
    record {
      count = length-zip2 bit_xor lows highs (long_low ∙ sym long_high) ∙ long_low;
      lanes = λ i l.
          get_or-zip2 bit_xor lows highs i 0 0 0 (omega arith) (omega arith)
          ∙ rw (
            looked_up bit_and 15 v c.fits-bytes.0 (low_small v) low c.args.self.now.low_repeats i l,
            looked_up down 4 v c.fits-bytes.0 (high_small v c.fits-bytes.1) high c.args.self.now.high_repeats i l,
          ) (ap (λ p. bit_xor (get_or low (32 * (i / 32) + p) 0) (get_or high (32 * (i / 32) + get_or v i 0 / 16) 0)) (and_mask (get_or v i 0) 4));
    }
