-- The laws of powers, and products by the tables of powers and logarithms.
use Rattle.std.specs.Prelude.{◌≡◌, ◌≢◌, ◌<◌, ◌≤◌, ℕ, List, zero, suc, ◌++◌, ◌+◌, ◌-◌, length, replicate, slice_index}
use Rattle.std.proofs.Common.{arith, refl, ap, sym, ◌∙◌, add-suc, inl, inr}
use Rattle.std.proofs.lemmas.Bool.{cases_lt}
use Rattle.std.proofs.lemmas.List.{get_or_append_left, get_or-append_right, get_or-replicate, get_or-set_same, get_or-set_other}
use Rattle.gf_tables.specs.Product.{IsOctic, octet_product}
use Rattle.gf_tables.specs.Powers.{power, long_powers, long_logarithms, AreTables}
use Rattle.gf_tables.specs.ProductLaws.{product_lt, product_one_left, product_one_right, product_zero_left, product_zero_right, product_assoc}

-- a power is a byte
pub power_lt : (poly gen k : ℕ) → IsOctic poly → power poly gen k < 256
unfolding power
power_lt poly gen zero d = omega arith
power_lt poly gen (suc k) d = product_lt poly d (power poly gen k) gen (power_lt poly gen k d)

-- the power of a sum is the product of the powers
power_add : (poly gen i j : ℕ) → IsOctic poly → gen < 256 → power poly gen (i + j) ≡ octet_product poly (power poly gen i) (power poly gen j)
unfolding power
power_add poly gen i zero d g = ap (power poly gen) (omega arith) ∙ sym (product_one_right poly d (power poly gen i))
power_add poly gen i (suc j) d g =
    ap (power poly gen) (add-suc i j) ∙ ap (λ x. octet_product poly x gen) (power_add poly gen i j d g)
    ∙ product_assoc poly d (power poly gen i) (power poly gen j) gen (power_lt poly gen i d) (power_lt poly gen j d) g

module _ (poly gen : ℕ) (exp log : List ℕ) (t : AreTables poly gen exp log) where
  -- a nonzero byte is the power at its logarithm
  power_log : (a : ℕ) → a ≢ 0 → a < 256 → power poly gen (slice_index log a) ≡ a
  power_log a h k =
      sym (t.powers.at (slice_index log a) (t.logarithms.below a h k)) ∙ t.logarithms.at a h k

  -- the product of nonzero bytes is the power at the sum of their logarithms
  pub product_by_tables : (a b : ℕ) → a ≢ 0 → b ≢ 0 → a < 256 → b < 256 → octet_product poly a b ≡ power poly gen (slice_index log a + slice_index log b)
  product_by_tables a b h k l m =
      sym (power_add poly gen (slice_index log a) (slice_index log b) t.degree t.generator ∙
      rw (power_log a h l, power_log b k m) refl)

  -- 255 more changes no power
  pub power_wraps : (k : ℕ) → 255 ≤ k → power poly gen k ≡ power poly gen (k - 255)
  power_wraps k h = let e : k ≡ 255 + (k - 255) = omega arith in
      ap (power poly gen) e ∙ power_add poly gen 255 (k - 255) t.degree t.generator
      ∙ ap (λ x. octet_product poly x (power poly gen (k - 255))) t.cycle
      ∙ product_one_left poly t.degree (power poly gen (k - 255)) (power_lt poly gen (k - 255) t.degree)

  -- a nonzero byte times its inverse
  pub product_inverse : (a : ℕ) → a ≢ 0 → a < 256 → octet_product poly a (power poly gen (255 - slice_index log a)) ≡ 1
  product_inverse a h k =
      let l = slice_index log a in
      let below : l < 255 = t.logarithms.below a h k in
      ap (λ x. octet_product poly x (power poly gen (255 - l))) (sym (power_log a h k))
      ∙ sym (power_add poly gen l (255 - l) t.degree t.generator)
      ∙ ap (power poly gen) (omega arith) ∙ t.cycle

  -- the product of nonzero bytes is not zero
  pub product_nonzero : (a b : ℕ) → a ≢ 0 → b ≢ 0 → a < 256 → b < 256 → octet_product poly a b ≢ 0
  product_nonzero a b h k l m z =
      let inv = power poly gen (255 - slice_index log b) in
      h (sym (product_one_right poly t.degree a)
      ∙ ap (octet_product poly a) (sym (product_inverse b k m))
      ∙ sym (product_assoc poly t.degree a b inv l m (power_lt poly gen (255 - slice_index log b) t.degree))
      ∙ ap (λ x. octet_product poly x inv) z
      ∙ product_zero_left poly t.degree inv)

  -- a place of the long table below 510 has a power
  pub long_power : (k : ℕ) → k < 510 → slice_index (long_powers exp) k ≡ power poly gen k
  long_power k h =
      elim (cases_lt k 255) [
        | inl l ↦ get_or_append_left exp (exp ++ replicate 514 0) 0 k (omega arith) ∙ t.powers.at k l
        | inr m ↦
            get_or-append_right exp (exp ++ replicate 514 0) 255 k 0 t.powers.count m
            ∙ get_or_append_left exp (replicate 514 0) 0 (k - 255) (omega arith)
            ∙ t.powers.at (k - 255) (omega arith)
            ∙ sym (power_wraps k m)
      ]

  -- a place from 510 on has a zero
  long_zero : (k : ℕ) → 510 ≤ k → k < 1024 → slice_index (long_powers exp) k ≡ 0
  long_zero k h l =
      get_or-append_right exp (exp ++ replicate 514 0) 255 k 0 t.powers.count (omega arith)
      ∙ get_or-append_right exp (replicate 514 0) 255 (k - 255) 0 t.powers.count (omega arith)
      ∙ get_or-replicate 514 (k - 255 - 255) 0 0 (omega arith)

  -- the place of zero is past all powers
  place_of_zero : (a : ℕ) → a < 1 → slice_index (long_logarithms log) a ≡ 511
  place_of_zero a h =
      let z : a ≡ 0 = omega arith in
      let count : length log ≡ 256 = t.logarithms.count in
      ap (slice_index (long_logarithms log)) z ∙ get_or-set_same log 0 511 0 (omega arith)

  -- the place of a nonzero byte is its logarithm
  place_of_nonzero : (a : ℕ) → a ≢ 0 → slice_index (long_logarithms log) a ≡ slice_index log a
  place_of_nonzero a h = get_or-set_other log 0 a 511 0 h

  -- each byte has a place below 512
  place_lt : (a : ℕ) → a < 256 → slice_index (long_logarithms log) a < 512
  place_lt a k =
      elim (cases_lt a 1) [
        | inl l ↦ let e = place_of_zero a l in omega arith
        | inr m ↦
            let n : a ≢ 0 = omega arith in
            let e = place_of_nonzero a n in
            let below = t.logarithms.below a n k in omega arith
      ]

  -- the product of bytes is at the sum of their places
  pub product_by_places : (a b : ℕ) → a < 256 → b < 256 → slice_index (long_powers exp) (slice_index (long_logarithms log) a + slice_index (long_logarithms log) b) ≡ octet_product poly a b
  product_by_places a b k l =
      let a_lt = place_lt a k in
      let b_lt = place_lt b l in
      elim (cases_lt a 1) [
        | inl z ↦
            let e = place_of_zero a z in
            let n : a ≡ 0 = omega arith in
            long_zero _ (omega arith) (omega arith) ∙ sym (product_zero_left poly t.degree b) ∙ ap (λ x. octet_product poly x b) (sym n)
        | inr m ↦ elim (cases_lt b 1) [
          | inl z ↦
              let e = place_of_zero b z in
              let n : b ≡ 0 = omega arith in
              long_zero _ (omega arith) (omega arith) ∙ sym (product_zero_right poly t.degree a) ∙ ap (octet_product poly a) (sym n)
          | inr w ↦
              let a_not : a ≢ 0 = omega arith in
              let b_not : b ≢ 0 = omega arith in
              let a_below = t.logarithms.below a a_not k in
              let b_below = t.logarithms.below b b_not l in
              rw (place_of_nonzero a a_not, place_of_nonzero b b_not)
              (long_power _ (omega arith) ∙ sym (product_by_tables a b a_not b_not k l))
        ]
      ]
