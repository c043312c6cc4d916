-- The numbers of a field's elements are a field.
use Rattle.std.specs.Prelude.{◌≡◌, ◌≢◌, ◌<◌, ℕ, refl, bit_xor}
use Rattle.std.specs.Int.Bits.{xor_assoc, xor_self, xor_zero_l}
use Rattle.std.proofs.Common.{sym, ◌∙◌, ap}
use Rattle.std.proofs.Math.Path.{ap₂}
use Rattle.std.proofs.lemmas.Nat.{xor_comm}
use Rattle.gf_tables.specs.Field.{IsField, IsNumbering}

-- numbers number themselves
pub own_numbering : (size : ℕ) (product : ℕ → ℕ → ℕ) → IsNumbering (λ n. n < size) 0 1 bit_xor product (λ n. n) (λ n. n) size product
own_numbering size product = record {
  number_below = λ _ h. h;
  element_of_number = λ _ h. h;
  number_of_number = λ _ _. refl;
  of_number_number = λ _ _. refl;
  number_zero = refl;
  number_one = refl;
  number_add = λ _ _ _ _. refl;
  number_mul = λ _ _ _ _. refl;
}

module _ {A : Type 0} {is_element : A → Type 0} {zero one : A} {add mul : A → A → A} {inv : A → A} {number : A → ℕ} {of_number : ℕ → A} {size : ℕ} {product : ℕ → ℕ → ℕ}
    (F : IsField is_element zero one add mul inv) (N : IsNumbering is_element zero one add mul number of_number size product) where
  -- elements with one number are the same
  same_number : (x y : A) → is_element x → is_element y → number x ≡ number y → x ≡ y
  same_number x y p q e = sym (N.of_number_number x p) ∙ ap of_number e ∙ N.of_number_number y q

  -- the number of a sum, from the numbers of its terms
  number_of_sum : (m n : ℕ) → m < size → n < size → number (add (of_number m) (of_number n)) ≡ bit_xor m n
  number_of_sum m n p q =
      N.number_add _ _ (N.element_of_number m p) (N.element_of_number n q) ∙ ap₂ bit_xor (N.number_of_number m p) (N.number_of_number n q)

  -- the number of a product, from the numbers of its factors
  number_of_product : (m n : ℕ) → m < size → n < size → number (mul (of_number m) (of_number n)) ≡ product m n
  number_of_product m n p q =
      N.number_mul _ _ (N.element_of_number m p) (N.element_of_number n q) ∙ ap₂ product (N.number_of_number m p) (N.number_of_number n q)

  -- the element with the number of a sum
  of_sum : (m n : ℕ) → m < size → n < size → of_number (bit_xor m n) ≡ add (of_number m) (of_number n)
  of_sum m n p q =
      ap of_number (sym (number_of_sum m n p q)) ∙ N.of_number_number _ (F.add_element _ _ (N.element_of_number m p) (N.element_of_number n q))

  -- the element with the number of a product
  of_product : (m n : ℕ) → m < size → n < size → of_number (product m n) ≡ mul (of_number m) (of_number n)
  of_product m n p q =
      ap of_number (sym (number_of_product m n p q)) ∙ N.of_number_number _ (F.mul_element _ _ (N.element_of_number m p) (N.element_of_number n q))

  -- the element with the number 1
  of_one : of_number 1 ≡ one
  of_one = ap of_number (sym N.number_one) ∙ N.of_number_number one F.one_element

  -- a sum has a number below the size
  sum_below : (m n : ℕ) → m < size → n < size → bit_xor m n < size
  sum_below m n p q =
      rw (number_of_sum m n p q) at (N.number_below _ (F.add_element _ _ (N.element_of_number m p) (N.element_of_number n q)))

  -- a product has a number below the size
  product_below : (m n : ℕ) → m < size → n < size → product m n < size
  product_below m n p q =
      rw (number_of_product m n p q) at (N.number_below _ (F.mul_element _ _ (N.element_of_number m p) (N.element_of_number n q)))

  -- only 0 is the number of zero
  of_nonzero : (n : ℕ) → n < size → n ≢ 0 → of_number n ≢ zero
  of_nonzero n p m e = m (sym (N.number_of_number n p) ∙ ap number e ∙ N.number_zero)

  -- the numbers are a field
  pub number_field : IsField (λ n. n < size) 0 1 bit_xor product (λ n. number (inv (of_number n)))
  number_field =
      let E = N.element_of_number in
      record {
        zero_element = rw N.number_zero at (N.number_below zero F.zero_element);
        one_element = rw N.number_one at (N.number_below one F.one_element);
        add_element = sum_below;
        mul_element = product_below;
        inv_element = λ n p m. N.number_below _ (F.inv_element (of_number n) (E n p) (of_nonzero n p m));
        add_comm = λ m n _ _. xor_comm m n;
        add_assoc = λ k m n _ _ _. xor_assoc k m n;
        zero_add = λ n _. xor_zero_l n;
        add_self = λ n _. xor_self n;
        mul_comm = λ m n p q.
            sym (number_of_product m n p q) ∙ ap number (F.mul_comm (of_number m) (of_number n) (E m p) (E n q)) ∙ number_of_product n m q p;
        mul_assoc = λ k m n p q r.
            let left = ap (λ x. mul x (of_number n)) (of_product k m p q) in
            let right = ap (mul (of_number k)) (of_product m n q r) in
            sym (number_of_product (product k m) n (product_below k m p q) r)
            ∙ ap number (left ∙ F.mul_assoc (of_number k) (of_number m) (of_number n) (E k p) (E m q) (E n r) ∙ sym right)
            ∙ number_of_product k (product m n) p (product_below m n q r);
        one_mul = λ n p.
            let below : 1 < size = rw N.number_one at (N.number_below one F.one_element) in
            sym (number_of_product 1 n below p) ∙ ap number (ap (λ x. mul x (of_number n)) of_one ∙ F.one_mul (of_number n) (E n p)) ∙ N.number_of_number n p;
        mul_add = λ k m n p q r.
            let sum = ap (mul (of_number k)) (of_sum m n q r) in
            sym (number_of_product k (bit_xor m n) p (sum_below m n q r))
            ∙ ap number (sum ∙ F.mul_add (of_number k) (of_number m) (of_number n) (E k p) (E m q) (E n r))
            ∙ N.number_add _ _ (F.mul_element _ _ (E k p) (E m q)) (F.mul_element _ _ (E k p) (E n r))
            ∙ ap₂ bit_xor (number_of_product k m p q) (number_of_product k n p r);
        mul_nonzero = λ m n p q i j h.
            F.mul_nonzero (of_number m) (of_number n) (E m p) (E n q) (of_nonzero m p i) (of_nonzero n q j)
            (same_number _ zero (F.mul_element _ _ (E m p) (E n q)) F.zero_element (number_of_product m n p q ∙ h ∙ sym N.number_zero));
        mul_inv = λ n p m.
            let i = F.inv_element (of_number n) (E n p) (of_nonzero n p m) in
            ap (λ k. product k (number (inv (of_number n)))) (sym (N.number_of_number n p)) ∙ sym (N.number_mul (of_number n) (inv (of_number n)) (E n p) i)
            ∙ ap number (F.mul_inv (of_number n) (E n p) (of_nonzero n p m)) ∙ N.number_one;
      }
