-- The laws of sums of shifts, for a polynomial of degree 8.
use Rattle.std.specs.Prelude.{◌≡◌, ◌≢◌, ◌<◌, ◌≤◌, ℕ, true, false, zero, suc, ◌^◌, ◌==◌, bit_xor, if◌then◌else◌}
use Rattle.std.specs.Int.{bit_at}
use Rattle.std.proofs.Common.{arith, refl, sym, inl, inr}
use Rattle.std.proofs.lemmas.Nat.{xor_lt}
use Rattle.std.proofs.lemmas.Nat.Bits.{bit_at-pow_same, bit_at-pow_other}
use Rattle.std.proofs.lemmas.Bool.{cases_eq}
use Rattle.std.specs.Int.Bits.{xor_zero_r}
use Rattle.gf_tables.specs.Product.{IsOctic, bit_times, shift, repeated_shift, sum_of_shifts}
use Rattle.gf_tables.specs.ShiftLaws.{shift_xor, shift_zero, repeated_shift_shift, repeated_shift_lt, repeated_shift_xor, xor_interchange}
use Rattle.gf_tables.specs.Linear.{bit_times_lt, bit_times_xor, bit_times_bit}

-- a bit times a shift is the shift of its product
bit_times_shift : (poly b x : ℕ) → bit_times b (shift poly x) ≡ shift poly (bit_times b x)
bit_times_shift poly b x =
    elim (b == 1) as (λ t. (if t then shift poly x else 0) ≡ shift poly (if t then x else 0)) [
      | true ↦ refl
      | false ↦ sym (shift_zero poly)
    ]

-- below its one bit a power of two adds nothing
sum_below : (poly a k m : ℕ) → m ≤ k → sum_of_shifts poly a (2 ^ k) m ≡ 0
unfolding sum_of_shifts
sum_below poly a k zero h = refl
sum_below poly a k (suc m) h =
    let ne : m ≢ k = omega arith in
    rw (sum_below poly a k m (omega arith), bit_at-pow_other k m ne) refl

-- the sum for a power of two is one shift
pub sum_of_power : (poly a k m : ℕ) → k < m → sum_of_shifts poly a (2 ^ k) m ≡ repeated_shift poly k a
unfolding sum_of_shifts
sum_of_power poly a k zero h = absurd (omega arith)
sum_of_power poly a k (suc m) h =
    elim (cases_eq m k) [
      | inl e ↦ rw (e, sum_below poly a k k (omega arith), bit_at-pow_same k) refl
      | inr ne ↦ rw (sum_of_power poly a k m (omega arith), bit_at-pow_other k m ne, xor_zero_r) refl
    ]

module _ (poly : ℕ) (d : IsOctic poly) where
  -- the sum of a byte's shifts is a byte
  pub sum_lt : (a b k : ℕ) → a < 256 → sum_of_shifts poly a b k < 256
  unfolding sum_of_shifts
  sum_lt a b zero h = omega arith
  sum_lt a b (suc k) h =
      xor_lt 8 (sum_of_shifts poly a b k) (bit_times (bit_at b k) (repeated_shift poly k a)) (sum_lt a b k h)
      (bit_times_lt (bit_at b k) (repeated_shift poly k a) (repeated_shift_lt poly k a d h))

  -- the second number is an exclusive or
  pub sum_xor_right : (a b c k : ℕ) → sum_of_shifts poly a (bit_xor b c) k ≡ bit_xor (sum_of_shifts poly a b k) (sum_of_shifts poly a c k)
  unfolding sum_of_shifts
  sum_xor_right a b c zero = refl
  sum_xor_right a b c (suc k) =
      let s = repeated_shift poly k a in
      rw (sum_xor_right a b c k, bit_times_bit b c k s)
      (xor_interchange (sum_of_shifts poly a b k) (sum_of_shifts poly a c k) (bit_times (bit_at b k) s) (bit_times (bit_at c k) s))

  -- the first number is a sum of bytes
  pub sum_xor_left : (a b c k : ℕ) → a < 256 → b < 256 → sum_of_shifts poly (bit_xor a b) c k ≡ bit_xor (sum_of_shifts poly a c k) (sum_of_shifts poly b c k)
  unfolding sum_of_shifts
  sum_xor_left a b c zero h m = refl
  sum_xor_left a b c (suc k) h m =
      let s = repeated_shift poly k a in
      let t = repeated_shift poly k b in
      rw (sum_xor_left a b c k h m, repeated_shift_xor poly k a b d h m, bit_times_xor (bit_at c k) s t)
      (xor_interchange (sum_of_shifts poly a c k) (sum_of_shifts poly b c k) (bit_times (bit_at c k) s) (bit_times (bit_at c k) t))

  -- the first number is shifted
  pub sum_shift : (a b k : ℕ) → a < 256 → sum_of_shifts poly (shift poly a) b k ≡ shift poly (sum_of_shifts poly a b k)
  unfolding sum_of_shifts
  sum_shift a b zero h = sym (shift_zero poly)
  sum_shift a b (suc k) h =
      let s = repeated_shift poly k a in
      let bit = bit_times_lt (bit_at b k) s (repeated_shift_lt poly k a d h) in
      rw (sum_shift a b k h, repeated_shift_shift poly k a, bit_times_shift poly (bit_at b k) s)
      (sym (shift_xor poly (sum_of_shifts poly a b k) (bit_times (bit_at b k) s) (sum_lt a b k h) bit))
