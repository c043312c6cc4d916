-- The laws of `shift` and `repeated_shift`, for a polynomial of degree 8.
use Rattle.std.specs.Prelude.{◌≡◌, ◌<◌, ◌≤◌, ℕ, zero, suc, ◌+◌, ◌*◌, ◌/◌, ◌^◌, bit_xor, nat_lt}
use Rattle.std.proofs.Common.{arith, refl, ap, sym, ◌∙◌, inl, inr}
use Rattle.std.proofs.lemmas.Nat.{xor_lt, xor_comm, xor_shr, xor_block, pow_below}
use Rattle.std.specs.Int.Bits.{xor_assoc, xor_self, xor_zero_r}
use Rattle.std.proofs.lemmas.Bool.{cases_lt, lt-ltb, le-ltb}
use Rattle.gf_tables.specs.Product.{IsOctic, shift, repeated_shift}

-- a small byte is doubled
shift-small : (poly a : ℕ) → a < 128 → shift poly a ≡ 2 * a
unfolding shift
shift-small poly a h =
    let t : nat_lt (2 * a) 256 ≡ _ = lt-ltb (2 * a) 256 (omega arith) in rw t

-- a large byte is doubled and reduced
shift-large : (poly a : ℕ) → 128 ≤ a → shift poly a ≡ bit_xor (2 * a) poly
unfolding shift
shift-large poly a h =
    let t : nat_lt (2 * a) 256 ≡ _ = le-ltb (2 * a) 256 (omega arith) in rw t

-- the middle two of four terms change places
pub xor_interchange : (a b c d : ℕ) → bit_xor (bit_xor a b) (bit_xor c d) ≡ bit_xor (bit_xor a c) (bit_xor b d)
xor_interchange a b c d =
    xor_assoc a b (bit_xor c d)
    ∙ ap (bit_xor a) (sym (xor_assoc b c d) ∙ ap (λ x. bit_xor x d) (xor_comm b c) ∙ xor_assoc c b d)
    ∙ sym (xor_assoc a c (bit_xor b d))

-- what is added to both terms of a sum cancels
xor_cancel : (a b c : ℕ) → bit_xor (bit_xor a c) (bit_xor b c) ≡ bit_xor a b
xor_cancel a b c = xor_interchange a c b c ∙ ap (bit_xor (bit_xor a b)) (xor_self c) ∙ xor_zero_r (bit_xor a b)

-- the sum of two doubles is the double of the sum
double_xor : (a b : ℕ) → bit_xor (2 * a) (2 * b) ≡ 2 * bit_xor a b
double_xor a b =
    let e : a * 2 + 0 ≡ 2 * a = omega arith in
    let f : b * 2 + 0 ≡ 2 * b = omega arith in
    rw (e, f) at (xor_block 1 a b 0 0 (omega arith) (omega arith)) ∙ omega arith

-- the sum of a small and a large byte is large
xor_large : (a b : ℕ) → a < 128 → 128 ≤ b → b < 256 → 128 ≤ bit_xor a b
xor_large a b h k m =
    let p : a / 128 ≡ 0 = omega arith in
    let q : b / 128 ≡ 1 = omega arith in
    let e : bit_xor a b / 128 ≡ 1 = rw (p, q) at (xor_shr a b 7) in
    omega arith

-- the sum of two large bytes is small
xor_small : (a b : ℕ) → 128 ≤ a → a < 256 → 128 ≤ b → b < 256 → bit_xor a b < 128
xor_small a b h i k m =
    let p : a / 128 ≡ 1 = omega arith in
    let q : b / 128 ≡ 1 = omega arith in
    let e : bit_xor a b / 128 ≡ 0 = rw (p, q) at (xor_shr a b 7) in
    omega arith

-- bytes are shifted to bytes
shift_lt : (poly a : ℕ) → IsOctic poly → a < 256 → shift poly a < 256
shift_lt poly a d h =
    elim (cases_lt a 128) [
      | inl low ↦ rw (shift-small poly a low) (omega arith)
      | inr high ↦ rw (shift-large poly a high) (
          let p : 2 * a / 256 ≡ 1 = omega arith in
          let q : poly / 256 ≡ 1 = omega arith in
          let e : bit_xor (2 * a) poly / 256 ≡ 0 = rw (p, q) at (xor_shr (2 * a) poly 8) in
          omega arith)
    ]

-- the shift of the sum of a small and a large byte
shift_xor_mixed : (poly a b : ℕ) → a < 128 → 128 ≤ b → b < 256 → shift poly (bit_xor a b) ≡ bit_xor (shift poly a) (shift poly b)
shift_xor_mixed poly a b h k m =
    let large : 128 ≤ bit_xor a b = xor_large a b h k m in
    rw (shift-small poly a h, shift-large poly b k, shift-large poly (bit_xor a b) large, ← double_xor a b)
    (xor_assoc (2 * a) (2 * b) poly)

-- the shift of a sum of bytes is the sum of their shifts
pub shift_xor : (poly a b : ℕ) → a < 256 → b < 256 → shift poly (bit_xor a b) ≡ bit_xor (shift poly a) (shift poly b)
shift_xor poly a b h k =
    elim (cases_lt a 128) [
      | inl p ↦ elim (cases_lt b 128) [
        | inl q ↦ rw (shift-small poly a p, shift-small poly b q, shift-small poly (bit_xor a b) (xor_lt 7 a b p q)) (sym (double_xor a b))
        | inr q ↦ shift_xor_mixed poly a b p q k
      ]
      | inr p ↦ elim (cases_lt b 128) [
        | inl q ↦
            ap (shift poly) (xor_comm a b) ∙ shift_xor_mixed poly b a q p h ∙ xor_comm (shift poly b) (shift poly a)
        | inr q ↦
            shift-small poly (bit_xor a b) (xor_small a b p h q k) ∙ sym (double_xor a b)
            ∙ sym (rw (shift-large poly a p, shift-large poly b q) (xor_cancel (2 * a) (2 * b) poly))
      ]
    ]

-- zero is shifted to zero
pub shift_zero : (poly : ℕ) → shift poly 0 ≡ 0
unfolding shift
shift_zero poly = refl

-- shifts can be done in any order
pub repeated_shift_shift : (poly k a : ℕ) → repeated_shift poly k (shift poly a) ≡ shift poly (repeated_shift poly k a)
unfolding repeated_shift
repeated_shift_shift poly zero a = refl
repeated_shift_shift poly (suc k) a = ap (shift poly) (repeated_shift_shift poly k a)

-- bytes are shifted to bytes, any number of times
pub repeated_shift_lt : (poly k a : ℕ) → IsOctic poly → a < 256 → repeated_shift poly k a < 256
unfolding repeated_shift
repeated_shift_lt poly zero a d h = h
repeated_shift_lt poly (suc k) a d h = shift_lt poly (repeated_shift poly k a) d (repeated_shift_lt poly k a d h)

-- the shifts of a sum of bytes are the sum of their shifts
pub repeated_shift_xor : (poly k a b : ℕ) → IsOctic poly → a < 256 → b < 256 → repeated_shift poly k (bit_xor a b) ≡ bit_xor (repeated_shift poly k a) (repeated_shift poly k b)
unfolding repeated_shift
repeated_shift_xor poly zero a b d h m = refl
repeated_shift_xor poly (suc k) a b d h m =
    ap (shift poly) (repeated_shift_xor poly k a b d h m)
    ∙ shift_xor poly (repeated_shift poly k a) (repeated_shift poly k b) (repeated_shift_lt poly k a d h) (repeated_shift_lt poly k b d m)

-- the powers of two below 256 are shifts of one
pub repeated_shift_one : (poly k : ℕ) → k < 8 → repeated_shift poly k 1 ≡ 2 ^ k
unfolding repeated_shift
repeated_shift_one poly zero h = refl
repeated_shift_one poly (suc k) h =
    rw (repeated_shift_one poly k (omega arith)) (shift-small poly (2 ^ k) (pow_below k 7 (omega arith)) ∙ omega arith)
