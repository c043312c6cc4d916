use Rattle.std.specs.Int.{bit_at, trailing_zeros, w64}
use Rattle.std.proofs.Common.{◌≡◌, ◌<◌, ◌≢◌, ◌^◌, ℕ, arith}
use Rattle.std.proofs.lemmas.Nat.Bits.{bit_at-trailing_zeros}
use Rattle.least_set.proofs.words.first_of.Goals as goal

-- the first bit of a word that isn't 0
first : (bits : ℕ) → bits ≢ 0 → bits < 2 ^ 64
    → (trailing_zeros w64 bits < 64) × (bit_at bits (trailing_zeros w64 bits) ≡ 1) × ((i : ℕ) → i < trailing_zeros w64 bits → bit_at bits i ≡ 0)
first bits some fits = bit_at-trailing_zeros w64 bits (omega (arith, some)) fits

pub returns-clause-set : goal.returns-clause-set
returns-clause-set c = (first c.args.bits c.requires c.ranges.bits.fits).1

pub returns-clause-before : goal.returns-clause-before
returns-clause-before c = (first c.args.bits c.requires c.ranges.bits.fits).2
