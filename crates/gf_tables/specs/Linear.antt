-- The laws of `bit_times`, and functions of bytes that are linear.
use Rattle.std.specs.Prelude.{◌≡◌, ◌⊎◌, ◌<◌, ◌≤◌, ℕ, true, false, zero, suc, ◌+◌, ◌*◌, ◌%◌, ◌^◌, ◌==◌, bit_xor, if◌then◌else◌}
use Rattle.std.specs.Int.{bit_at}
use Rattle.std.specs.Int.Bits.{xor_self, xor_zero_r}
use Rattle.std.proofs.Common.{arith, refl, ap, sym, ◌∙◌, inl, inr, one-add}
use Rattle.std.proofs.lemmas.Nat.{xor_comm, xor_block, mod-pow-add, mod_below, pow_pos, pow_below}
use Rattle.std.proofs.lemmas.Nat.Bits.{bit_at_xor, bit_at-lt}
use Rattle.gf_tables.specs.Product.{bit_times}

-- a bit times a byte is a byte
pub bit_times_lt : (b x : ℕ) → x < 256 → bit_times b x < 256
bit_times_lt b x h = elim (b == 1) as (λ t. (if t then x else 0) < 256) [ true ↦ h | false ↦ omega arith ]

-- a bit times a sum is the sum of its products with the terms
pub bit_times_xor : (b x y : ℕ) → bit_times b (bit_xor x y) ≡ bit_xor (bit_times b x) (bit_times b y)
bit_times_xor b x y =
    elim (b == 1) as (λ t. (if t then bit_xor x y else 0) ≡ bit_xor (if t then x else 0) (if t then y else 0)) [
      | true ↦ refl
      | false ↦ refl
    ]

-- a bit is 0 or 1
bit_cases : (b k : ℕ) → (bit_at b k ≡ 0) ⊎ (bit_at b k ≡ 1)
bit_cases b k = let h : bit_at b k < 2 = bit_at-lt b k in grind arith

-- the sum of two bits, times x
bit_times_add : (b c x : ℕ) → (b ≡ 0) ⊎ (b ≡ 1) → (c ≡ 0) ⊎ (c ≡ 1) → bit_times ((b + c) % 2) x ≡ bit_xor (bit_times b x) (bit_times c x)
bit_times_add b c x (inl p) (inl q) = rw (p, q) refl
bit_times_add b c x (inl p) (inr q) = rw (p, q) refl
bit_times_add b c x (inr p) (inl q) = rw (p, q) (sym (xor_zero_r x))
bit_times_add b c x (inr p) (inr q) = rw (p, q) (sym (xor_self x))

-- a bit of an exclusive or, times x
pub bit_times_bit : (a b k x : ℕ) → bit_times (bit_at (bit_xor a b) k) x ≡ bit_xor (bit_times (bit_at a k) x) (bit_times (bit_at b k) x)
bit_times_bit a b k x =
    ap (λ t. bit_times t x) (bit_at_xor a b k) ∙ bit_times_add (bit_at a k) (bit_at b k) x (bit_cases a k) (bit_cases b k)

-- a power of two is added to a smaller number
xor_above : (m r : ℕ) → r < 2 ^ m → bit_xor (2 ^ m) r ≡ 1 * 2 ^ m + r
xor_above m r h =
    let p : 1 * 2 ^ m + 0 ≡ 2 ^ m = omega arith in
    let q : 0 * 2 ^ m + r ≡ r = omega arith in
    rw (p, q) at (xor_block m 1 0 0 r (pow_pos m) h)

-- the low bits of x, and one more
low_bits-suc : (x m : ℕ) → x % 2 ^ suc m ≡ bit_xor (x % 2 ^ m) (bit_times (bit_at x m) (2 ^ m))
low_bits-suc x m =
    let low : x % 2 ^ m < 2 ^ m = mod_below x (2 ^ m) (pow_pos m) in
    let e : x % 2 ^ suc m ≡ bit_at x m * 2 ^ m + x % 2 ^ m =
    ap (λ k. x % 2 ^ k) (sym (one-add m)) ∙ mod-pow-add x 1 m
    in
    elim (bit_cases x m) [
      | inl p ↦ rw (e, p, xor_zero_r) (omega arith)
      | inr p ↦ rw (e, p) (sym (xor_comm (x % 2 ^ m) (2 ^ m) ∙ xor_above m (x % 2 ^ m) low))
    ]

-- f of a sum of bytes is the sum of their f
pub record IsLinear (f : ℕ → ℕ) : Type 0 where
  pub at : (x y : ℕ) → x < 256 → y < 256 → f (bit_xor x y) ≡ bit_xor (f x) (f y)

-- a linear function is zero at zero
pub IsLinear-zero : (f : ℕ → ℕ) → IsLinear f → f 0 ≡ 0
IsLinear-zero f h = h.at 0 0 (omega arith) (omega arith) ∙ xor_self (f 0)

module _ (f g : ℕ → ℕ) (p : IsLinear f) (q : IsLinear g) (h : (k : ℕ) → k < 8 → f (2 ^ k) ≡ g (2 ^ k)) where
  -- the functions agree on a bit times a power of two
  same_bit_times : (b k : ℕ) → k < 8 → f (bit_times b (2 ^ k)) ≡ g (bit_times b (2 ^ k))
  same_bit_times b k l =
      elim (b == 1) as (λ t. f (if t then 2 ^ k else 0) ≡ g (if t then 2 ^ k else 0)) [
        | true ↦ h k l
        | false ↦ IsLinear-zero f p ∙ sym (IsLinear-zero g q)
      ]

  -- the functions agree on the low bits of a byte
  same_low : (x m : ℕ) → m ≤ 8 → f (x % 2 ^ m) ≡ g (x % 2 ^ m)
  same_low x zero l =
      let e : x % 2 ^ 0 ≡ 0 = omega arith in rw e (IsLinear-zero f p ∙ sym (IsLinear-zero g q))
  same_low x (suc m) l =
      let low : x % 2 ^ m < 256 = omega (arith, mod_below x (2 ^ m) (pow_pos m), pow_below m 8 (omega arith)) in
      let bit : bit_times (bit_at x m) (2 ^ m) < 256 = bit_times_lt (bit_at x m) (2 ^ m) (pow_below m 8 (omega arith)) in
      rw (
        low_bits-suc x m,
        p.at (x % 2 ^ m) (bit_times (bit_at x m) (2 ^ m)) low bit,
        q.at (x % 2 ^ m) (bit_times (bit_at x m) (2 ^ m)) low bit,
        same_low x m (omega arith),
        same_bit_times (bit_at x m) m (omega arith),
      ) refl

  -- linear functions that agree on the powers of two agree on each byte
  pub same_linear : (x : ℕ) → x < 256 → f x ≡ g x
  same_linear x l = let e : x % 2 ^ 8 ≡ x = omega arith in rw e at (same_low x 8 (omega arith))
