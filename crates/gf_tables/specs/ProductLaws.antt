-- The laws of the product of octets: it distributes, commutes and associates, and 1 is its unit.
use Rattle.std.specs.Prelude.{◌≡◌, ◌<◌, ℕ, zero, suc, ◌^◌, bit_xor}
use Rattle.std.proofs.Common.{arith, refl, ap, sym, ◌∙◌}
use Rattle.gf_tables.specs.Product.{IsOctic, shift, repeated_shift, octet_product}
use Rattle.gf_tables.specs.ShiftLaws.{repeated_shift_lt, repeated_shift_one}
use Rattle.gf_tables.specs.Linear.{IsLinear, IsLinear-zero, same_linear}
use Rattle.gf_tables.specs.SumLaws.{sum_lt, sum_of_power, sum_xor_right, sum_xor_left, sum_shift}

module _ (poly : ℕ) (d : IsOctic poly) where
  -- the product of a byte is a byte
  pub product_lt : (a b : ℕ) → a < 256 → octet_product poly a b < 256
  unfolding octet_product
  product_lt a b h = sum_lt poly d a b 8 h

  -- the product distributes over a sum on its right
  pub product_xor_right : (a b c : ℕ) → octet_product poly a (bit_xor b c) ≡ bit_xor (octet_product poly a b) (octet_product poly a c)
  unfolding octet_product
  product_xor_right a b c = sum_xor_right poly d a b c 8

  -- the product distributes over a sum of bytes on its left
  product_xor_left : (a b c : ℕ) → a < 256 → b < 256 → octet_product poly (bit_xor a b) c ≡ bit_xor (octet_product poly a c) (octet_product poly b c)
  unfolding octet_product
  product_xor_left a b c h k = sum_xor_left poly d a b c 8 h k

  -- the product is linear in its right factor
  right_linear : (a : ℕ) → IsLinear (octet_product poly a)
  right_linear a = record { at = λ x y _ _. product_xor_right a x y }

  -- the product is linear in its left factor
  left_linear : (b : ℕ) → IsLinear (λ a. octet_product poly a b)
  left_linear b = record { at = λ x y h k. product_xor_left x y b h k }

  -- shifting the left factor shifts the product
  product_shift_left : (a b : ℕ) → a < 256 → octet_product poly (shift poly a) b ≡ shift poly (octet_product poly a b)
  unfolding octet_product
  product_shift_left a b h = sum_shift poly d a b 8 h

  -- shifting the left factor k times shifts the product k times
  product_repeated_shift_left : (k a b : ℕ) → a < 256 → octet_product poly (repeated_shift poly k a) b ≡ repeated_shift poly k (octet_product poly a b)
  unfolding repeated_shift
  product_repeated_shift_left zero a b h = refl
  product_repeated_shift_left (suc k) a b h =
      product_shift_left (repeated_shift poly k a) b (repeated_shift_lt poly k a d h) ∙ ap (shift poly) (product_repeated_shift_left k a b h)

  -- the product with a power of two is a shift
  product_power : (k a : ℕ) → k < 8 → octet_product poly a (2 ^ k) ≡ repeated_shift poly k a
  unfolding octet_product
  product_power k a h = sum_of_power poly a k 8 h

  -- one is a unit on the right
  pub product_one_right : (a : ℕ) → octet_product poly a 1 ≡ a
  unfolding repeated_shift
  product_one_right a = product_power 0 a (omega arith)

  -- one is a unit on the left
  pub product_one_left : (a : ℕ) → a < 256 → octet_product poly 1 a ≡ a
  product_one_left a h =
      same_linear (octet_product poly 1) (λ x. x) (right_linear 1) (record { at = λ _ _ _ _. refl })
      (λ k l. product_power k 1 l ∙ repeated_shift_one poly k l) a h

  -- a product with zero on the right
  pub product_zero_right : (a : ℕ) → octet_product poly a 0 ≡ 0
  product_zero_right a = IsLinear-zero (octet_product poly a) (right_linear a)

  -- a product with zero on the left
  pub product_zero_left : (b : ℕ) → octet_product poly 0 b ≡ 0
  product_zero_left b = IsLinear-zero (λ a. octet_product poly a b) (left_linear b)

  -- the product of a power of two with a byte is a shift
  product_power_left : (k b : ℕ) → k < 8 → b < 256 → octet_product poly (2 ^ k) b ≡ repeated_shift poly k b
  product_power_left k b h m =
      ap (λ x. octet_product poly x b) (sym (repeated_shift_one poly k h)) ∙ product_repeated_shift_left k 1 b (omega arith)
      ∙ ap (repeated_shift poly k) (product_one_left b m)

  -- the product of bytes commutes
  pub product_comm : (a b : ℕ) → a < 256 → b < 256 → octet_product poly a b ≡ octet_product poly b a
  product_comm a b h m =
      same_linear (λ x. octet_product poly x b) (octet_product poly b) (left_linear b) (right_linear b)
      (λ k l. product_power_left k b l m ∙ sym (product_power k b l)) a h

  -- shifting the right factor k times shifts the product k times
  product_repeated_shift_right : (k a b : ℕ) → a < 256 → b < 256 → octet_product poly a (repeated_shift poly k b) ≡ repeated_shift poly k (octet_product poly a b)
  product_repeated_shift_right k a b h m =
      product_comm a (repeated_shift poly k b) h (repeated_shift_lt poly k b d m) ∙ product_repeated_shift_left k b a m
      ∙ ap (repeated_shift poly k) (product_comm b a m h)

  -- the product of bytes associates
  pub product_assoc : (a b c : ℕ) → a < 256 → b < 256 → c < 256 → octet_product poly (octet_product poly a b) c ≡ octet_product poly a (octet_product poly b c)
  product_assoc a b c h m l =
      let ab = octet_product poly a b in
      let f : ℕ → ℕ = λ x. octet_product poly a (octet_product poly b x) in
      same_linear (octet_product poly ab) f (right_linear ab)
      (record {
        at = λ x y _ _. ap (octet_product poly a) (product_xor_right b x y)
            ∙ product_xor_right a (octet_product poly b x) (octet_product poly b y);
      })
      (λ k i. product_power k ab i ∙ sym (ap (octet_product poly a) (product_power k b i) ∙ product_repeated_shift_right k a b h m))
      c l
