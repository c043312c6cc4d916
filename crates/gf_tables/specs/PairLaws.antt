-- The pairs over a field are a field.
use Rattle.std.specs.Prelude.{◌≡◌, ◌≢◌, ◌↔◌, ◌&&◌, Bool, true, false, IsTrue, refl}
use Rattle.std.proofs.Common.{sym, ◌∙◌, ap}
use Rattle.std.proofs.Math.Logic.{∥∥₁_elim, ∥∥₁_prop, ∥∥₁_map₂}
use Rattle.std.proofs.lemmas.Bool.Decides.{Decides-and, Decides-like}
use mathlib.Core.HLevel.{Σ_prop_path, hedberg}
use Rattle.gf_tables.specs.Field.{IsField}
use Rattle.gf_tables.specs.Pairs.{pair, AreElements, pair_add, pair_mul, norm, pair_inv}
use Rattle.gf_tables.specs.declared.quad.Quad.{Quad}

module _ {A : Type 0} (add mul : A → A → A) (root : A) where
  -- the product of two pairs by that of their sums, which has the cross products
  abbrev pub product_by_sums : Quad A → Quad A → Quad A
  product_by_sums x y =
      let low = mul x.low y.low in
      pair (add low (mul (mul root x.high) y.high)) (add (mul (add x.low x.high) (add y.low y.high)) low)

-- a commutative ring in which each element is its own opposite
record IsRing {E : Type 0} (zero one : E) (add mul : E → E → E) : Type 0 where
  add_comm : (x y : E) → add x y ≡ add y x
  add_assoc : (x y z : E) → add (add x y) z ≡ add x (add y z)
  zero_add : (x : E) → add zero x ≡ x
  add_self : (x : E) → add x x ≡ zero
  mul_comm : (x y : E) → mul x y ≡ mul y x
  mul_assoc : (x y z : E) → mul (mul x y) z ≡ mul x (mul y z)
  one_mul : (x : E) → mul one x ≡ x
  mul_add : (x y z : E) → mul x (add y z) ≡ add (mul x y) (mul x z)

module _ {E : Type 0} {zero one : E} {add mul : E → E → E} (R : IsRing zero one add mul) where
  open R use {add_comm, add_assoc, zero_add, add_self, mul_comm, mul_assoc, one_mul, mul_add}

  -- the first two of three summands change places
  add_left_comm : (x y z : E) → add x (add y z) ≡ add y (add x z)
  add_left_comm x y z = sym (add_assoc x y z) ∙ ap (λ w. add w z) (add_comm x y) ∙ add_assoc y x z

  -- the first two of three factors change places
  mul_left_comm : (x y z : E) → mul x (mul y z) ≡ mul y (mul x z)
  mul_left_comm x y z = sym (mul_assoc x y z) ∙ ap (λ w. mul w z) (mul_comm x y) ∙ mul_assoc y x z

  -- zero on the right adds nothing
  add_zero : (x : E) → add x zero ≡ x
  add_zero x = add_comm x zero ∙ zero_add x

  -- a product with a sum on the left
  add_mul : (x y z : E) → mul (add x y) z ≡ add (mul x z) (mul y z)
  add_mul x y z = mul_comm (add x y) z ∙ mul_add z x y ∙ simp mul_comm

  -- a product with zero on the right
  mul_zero : (x : E) → mul x zero ≡ zero
  mul_zero x = ap (mul x) (sym (zero_add zero)) ∙ mul_add x zero zero ∙ add_self (mul x zero)

  -- a product with zero on the left
  zero_mul : (x : E) → mul zero x ≡ zero
  zero_mul x = mul_comm zero x ∙ mul_zero x

  -- what times x is one shows that x times y is zero only where y is
  no_divisors : (x d y : E) → mul x d ≡ one → mul x y ≡ zero → y ≡ zero
  no_divisors x d y e h =
      let regroup : mul (mul x d) y ≡ mul d (mul x y) = simp (mul_assoc, mul_left_comm) in
      sym (one_mul y) ∙ ap (λ w. mul w y) (sym e) ∙ regroup ∙ ap (mul d) h ∙ mul_zero d

  -- the pairs are such a ring
  pairs : (root : E) → IsRing (pair zero zero) (pair one zero) (pair_add add) (pair_mul add mul root)
  pairs root = record {
    add_comm = λ x y. simp add_comm;
    add_assoc = λ x y z. simp add_assoc;
    zero_add = λ x. simp zero_add;
    add_self = λ x. simp add_self;
    mul_comm = λ x y. simp (mul_comm, add_comm);
    mul_assoc = λ x y z. simp (mul_add, add_mul, mul_assoc, mul_comm, mul_left_comm, add_assoc, add_comm, add_left_comm);
    one_mul = λ x. simp (one_mul, mul_zero, zero_mul, add_zero);
    mul_add = λ x y z. simp (mul_add, add_assoc, add_comm, add_left_comm);
  }

  -- the product of two pairs by that of their sums
  mul-by_sums : (root : E) (x y : Quad E) → pair_mul add mul root x y ≡ product_by_sums add mul root x y
  mul-by_sums root x y = simp (mul_add, add_mul, mul_assoc, add_assoc, add_comm, add_left_comm, add_self, zero_add)

  -- where d is one divided by the norm, the inverse is what its name says
  mul-inv : (root : E) (x : Quad E) (d : E) → mul (norm add mul root x.low x.high) d ≡ one → pair_mul add mul root x (pair_inv add mul root (λ _. d) x) ≡ pair one zero
  mul-inv root x d e =
      let expand : pair_mul add mul root x (pair_inv add mul root (λ _. d) x) ≡ pair (mul (norm add mul root x.low x.high) d) zero =
      simp (mul_add, add_mul, mul_assoc, mul_comm, mul_left_comm, add_assoc, add_comm, add_left_comm, add_self)
      in
      expand ∙ ap (λ w. pair w zero) e

  -- the norm of a pair with no high part
  norm-constant : (root a : E) → norm add mul root a zero ≡ mul a a
  norm-constant root a = simp (mul_zero, add_zero)

  -- the norm of a + b*y, by t = a/b
  norm-quotient : (root a b d : E) → mul b d ≡ one → let t = mul a d in norm add mul root a b ≡ mul (mul b b) (add (add (mul t t) t) root)
  norm-quotient root a b d e =
      let regroup : mul (mul a d) b ≡ mul (mul b d) a = simp (mul_assoc, mul_comm, mul_left_comm) in
      let whole : a ≡ mul (mul a d) b = sym (one_mul a) ∙ ap (λ w. mul w a) (sym e) ∙ sym regroup in
      ap (λ w. norm add mul root w b) whole ∙ simp (mul_add, mul_assoc, mul_comm, mul_left_comm, add_assoc, add_comm, add_left_comm)

-- a test that tells whether P holds decides P
decision : {P : Type 0} (test : Bool) → IsTrue test ↔ P → Dec P
decision true e = yes (e.0 refl)
decision false e = no (λ p. let absurd_test : IsTrue false = e.1 p in cc)

-- pairs are equal where both parts are
pub equal_pairs : {A : Type 0} (eq : A → A → Bool) → ((x y : A) → IsTrue (eq x y) ↔ (x ≡ y))
    → (x y : Quad A) → IsTrue (eq x.low y.low && eq x.high y.high) ↔ (x ≡ y)
equal_pairs eq equal x y =
    let parts = Decides-and _ _ (equal x.low y.low) (equal x.high y.high) in
    Decides-like _ (λ e i. pair (e.0 i) (e.1 i)) (λ e. (ap (λ w. w.low) e, ap (λ w. w.high) e)) parts

-- the elements, each of them once
abbrev Element : {A : Type 0} → (A → Type 0) → Type 0
Element {A} is_element = (x : A) × ∥ is_element x ∥₁

module _ {A : Type 0} {is_element : A → Type 0} where
  -- an element, from the proof that it is one
  abbrev with_proof : (x : A) → is_element x → Element is_element
  with_proof x p = (x, ∣ p ∣₁)

  -- what gives elements, as an operation on them
  abbrev on_elements : (f : A → A → A) → ((x y : A) → is_element x → is_element y → is_element (f x y))
      → Element is_element → Element is_element → Element is_element
  on_elements f h x y = (f x.0 y.0, ∥∥₁_map₂ x.1 y.1 (h x.0 y.0))

  -- a pair of elements, from the proofs that they are
  abbrev pair_of_elements : (x : Quad A) → AreElements is_element x → Quad (Element is_element)
  pair_of_elements x p = pair (with_proof x.low p.0) (with_proof x.high p.1)

  -- and back
  abbrev pair_of_values : Quad (Element is_element) → Quad A
  pair_of_values x = pair x.low.0 x.high.0

  -- one value is one element
  same_element : (x y : Element is_element) → x.0 ≡ y.0 → x ≡ y
  same_element x y = Σ_prop_path (λ _. ∥∥₁_prop)

  -- pairs of elements with the same values are the same
  same_pair : (x y : Quad (Element is_element)) → pair_of_values x ≡ pair_of_values y → x ≡ y
  same_pair x y e = λ i. pair (same_element x.low y.low (ap (λ w. w.low) e) i) (same_element x.high y.high (ap (λ w. w.high) e) i)

module _ {A : Type 0} {is_element : A → Type 0} {zero one : A} {add mul : A → A → A} {inv : A → A}
    (F : IsField is_element zero one add mul inv) (eq : A → A → Bool) (equal : (x y : A) → IsTrue (eq x y) ↔ (x ≡ y)) where
  -- two values are equal or not
  decide : (x y : A) → Dec (x ≡ y)
  decide x y = decision (eq x y) (equal x y)

  -- an equation that holds where three are elements
  from_elements : (x y z : Element is_element) {a b : A} → (is_element x.0 → is_element y.0 → is_element z.0 → a ≡ b) → a ≡ b
  from_elements x y z {a} {b} h =
      let once = hedberg decide a b in
      ∥∥₁_elim x.1 once (λ p. ∥∥₁_elim y.1 once (λ q. ∥∥₁_elim z.1 once (h p q)))

  -- the elements are a ring
  elements : IsRing (with_proof zero F.zero_element) (with_proof one F.one_element) (on_elements add F.add_element) (on_elements mul F.mul_element)
  elements = record {
    add_comm = λ x y. same_element _ _ (from_elements x y y (λ p q _. F.add_comm x.0 y.0 p q));
    add_assoc = λ x y z. same_element _ _ (from_elements x y z (F.add_assoc x.0 y.0 z.0));
    zero_add = λ x. same_element _ _ (from_elements x x x (λ p _ _. F.zero_add x.0 p));
    add_self = λ x. same_element _ _ (from_elements x x x (λ p _ _. F.add_self x.0 p));
    mul_comm = λ x y. same_element _ _ (from_elements x y y (λ p q _. F.mul_comm x.0 y.0 p q));
    mul_assoc = λ x y z. same_element _ _ (from_elements x y z (F.mul_assoc x.0 y.0 z.0));
    one_mul = λ x. same_element _ _ (from_elements x x x (λ p _ _. F.one_mul x.0 p));
    mul_add = λ x y z. same_element _ _ (from_elements x y z (F.mul_add x.0 y.0 z.0));
  }

  module _ {root : A} (root_element : is_element root) where
    -- the product of two pairs of elements by that of their sums
    pub pair_mul-by_sums : (x y : Quad A) → AreElements is_element x → AreElements is_element y → pair_mul add mul root x y ≡ product_by_sums add mul root x y
    pair_mul-by_sums x y p q = ap pair_of_values (mul-by_sums elements (with_proof root root_element) (pair_of_elements x p) (pair_of_elements y q))

    -- a product of pairs with zero
    pub pair_zero_mul : (x : Quad A) → AreElements is_element x → pair_mul add mul root (pair zero zero) x ≡ pair zero zero
    pair_zero_mul x p = ap pair_of_values (zero_mul (pairs elements (with_proof root root_element)) (pair_of_elements x p))

    pub pair_mul_zero : (x : Quad A) → AreElements is_element x → pair_mul add mul root x (pair zero zero) ≡ pair zero zero
    pair_mul_zero x p = ap pair_of_values (mul_zero (pairs elements (with_proof root root_element)) (pair_of_elements x p))

    -- a norm is an element
    norm_element : (a b : A) → is_element a → is_element b → is_element (norm add mul root a b)
    norm_element a b p q = search (F.add_element, F.mul_element)

    module _ (no_root : (t : A) → is_element t → add (add (mul t t) t) root ≢ zero) where
      -- the norm of a + b*y is zero only where a and b are
      pub norm_nonzero : (x : Quad A) → AreElements is_element x → x ≢ pair zero zero → norm add mul root x.low x.high ≢ zero
      norm_nonzero x p n = go (decide x.high zero)
        where
          go : Dec (x.high ≡ zero) → norm add mul root x.low x.high ≢ zero
          go (yes e) =
              let square = ap (λ w. w.0) (norm-constant elements (with_proof root root_element) (with_proof x.low p.0)) in
              let low_nonzero : x.low ≢ zero = λ l. n (λ i. pair (l i) (e i)) in
              λ h. F.mul_nonzero x.low x.low p.0 p.0 low_nonzero low_nonzero (sym square ∙ ap (norm add mul root x.low) (sym e) ∙ h)
          go (no m) =
              let d = with_proof (inv x.high) (F.inv_element x.high p.1 m) in
              let quotient = same_element _ _ (F.mul_inv x.high p.1 m) in
              let product = ap (λ w. w.0) (norm-quotient elements (with_proof root root_element) (with_proof x.low p.0) (with_proof x.high p.1) d quotient) in
              let t_element : is_element (mul x.low (inv x.high)) = F.mul_element x.low (inv x.high) p.0 (F.inv_element x.high p.1 m) in
              let square_nonzero = F.mul_nonzero x.high x.high p.1 p.1 m m in
              λ h. F.mul_nonzero _ _ (F.mul_element x.high x.high p.1 p.1) (search (F.add_element, F.mul_element)) square_nonzero (no_root _ t_element) (sym product ∙ h)

      -- one divided by the norm is an element
      inverse_element : (x : Quad A) → AreElements is_element x → x ≢ pair zero zero → is_element (inv (norm add mul root x.low x.high))
      inverse_element x p n = F.inv_element _ (norm_element x.low x.high p.0 p.1) (norm_nonzero x p n)

      -- the product of a pair and its inverse
      pair_mul-inv : (x : Quad A) → AreElements is_element x → x ≢ pair zero zero → pair_mul add mul root x (pair_inv add mul root inv x) ≡ pair one zero
      pair_mul-inv x p n =
          let d = with_proof (inv (norm add mul root x.low x.high)) (inverse_element x p n) in
          let quotient = same_element _ _ (F.mul_inv _ (norm_element x.low x.high p.0 p.1) (norm_nonzero x p n)) in
          ap pair_of_values (mul-inv elements (with_proof root root_element) (pair_of_elements x p) d quotient)

      -- the inverse of a pair is one of elements
      pair_inv_element : (x : Quad A) → AreElements is_element x → x ≢ pair zero zero → AreElements is_element (pair_inv add mul root inv x)
      pair_inv_element x p n = let d = inverse_element x p n in search (F.add_element, F.mul_element)

      -- the pairs of elements are a field
      pub pair_field : IsField (AreElements is_element) (pair zero zero) (pair one zero) (pair_add add) (pair_mul add mul root) (pair_inv add mul root inv)
      pair_field = let ring = pairs elements (with_proof root root_element) in record {
        zero_element = (F.zero_element, F.zero_element);
        one_element = (F.one_element, F.zero_element);
        add_element = λ x y p q. search (F.add_element);
        mul_element = λ x y p q. search (F.add_element, F.mul_element);
        inv_element = pair_inv_element;
        add_comm = λ x y p q. ap pair_of_values (ring.add_comm (pair_of_elements x p) (pair_of_elements y q));
        add_assoc = λ x y z p q r. ap pair_of_values (ring.add_assoc (pair_of_elements x p) (pair_of_elements y q) (pair_of_elements z r));
        zero_add = λ x p. ap pair_of_values (ring.zero_add (pair_of_elements x p));
        add_self = λ x p. ap pair_of_values (ring.add_self (pair_of_elements x p));
        mul_comm = λ x y p q. ap pair_of_values (ring.mul_comm (pair_of_elements x p) (pair_of_elements y q));
        mul_assoc = λ x y z p q r. ap pair_of_values (ring.mul_assoc (pair_of_elements x p) (pair_of_elements y q) (pair_of_elements z r));
        one_mul = λ x p. ap pair_of_values (ring.one_mul (pair_of_elements x p));
        mul_add = λ x y z p q r. ap pair_of_values (ring.mul_add (pair_of_elements x p) (pair_of_elements y q) (pair_of_elements z r));
        mul_nonzero = λ x y p q m n h.
            let inverse = pair_of_elements (pair_inv add mul root inv x) (pair_inv_element x p m) in
            let quotient = same_pair _ _ (pair_mul-inv x p m) in
            n (ap pair_of_values (no_divisors ring (pair_of_elements x p) inverse (pair_of_elements y q) quotient (same_pair _ _ h)));
        mul_inv = pair_mul-inv;
      }
