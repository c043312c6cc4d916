-- A function of bytes by two tables of 16.
use Rattle.std.specs.Prelude.{◌≡◌, ◌<◌, ℕ, ◌+◌, ◌*◌, ◌/◌, ◌%◌, List, slice_index, bit_xor}

-- the sum of what the tables have at the low and the high half of a byte
abbrev pub by_halves : List ℕ → List ℕ → ℕ → ℕ
by_halves low high byte = bit_xor (slice_index low (byte % 16)) (slice_index high (byte / 16))

-- the same, where the tables of lane i begin at the half of 64 lanes that i is in
abbrev pub by_lane : List ℕ → List ℕ → ℕ → ℕ → ℕ
by_lane low high i byte = bit_xor (slice_index low (32 * (i / 32) + byte % 16)) (slice_index high (32 * (i / 32) + byte / 16))

-- each half of 64 lanes has one block of 16 twice
pub record RepeatsInHalves (lanes : List ℕ) : Type 0 where
  pub at : (half k : ℕ) → half < 2 → k < 32 → slice_index lanes (32 * half + k) ≡ slice_index lanes (32 * half + k % 16)
