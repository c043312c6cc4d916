-- The numbers of pairs: a + size * b for the pair of the elements with the numbers a and b.
use Rattle.std.specs.Prelude.{◌≡◌, ℕ, ◌+◌, ◌*◌, ◌/◌, ◌%◌, ◌<◌, ◌≤◌, ◌^◌, bit_xor}
use Rattle.std.proofs.Common.{sym, ◌∙◌, ap, inl, inr, arith}
use Rattle.std.proofs.Math.Nat.{add-mul-div_left, add-mul-mod_self_left, div-eq_of_lt, mod-add-div, mod-eq_of_lt}
use Rattle.std.proofs.Math.Path.{ap₂}
use Rattle.std.proofs.lemmas.Nat.{div_below, mod_below, mul-add-lt, xor_block}
use Rattle.gf_tables.specs.Field.{IsField, AreSizes, IsNumbering}
use Rattle.gf_tables.specs.Pairs.{AreElements, pair, pair_add, pair_mul, pair_number, pair_of_number}
use Rattle.gf_tables.specs.Product.{pair_product}
use Rattle.gf_tables.specs.declared.quad.Quad.{Quad}

-- of the two sizes the inner field has the smaller
small_size : {bytes size : ℕ} → AreSizes bytes size → size ≤ 256 → (bytes ≡ 1) × (size ≡ 256)
small_size (inl h) small = h
small_size (inr h) small = absurd (omega arith)

-- so it is 256
pub is_256 : {bytes size : ℕ} → AreSizes bytes size → size ≤ 256 → size ≡ 256
is_256 h small = (small_size h small).1

-- the field of pairs has the larger
pub pair_sizes : {bytes size pair_bytes pair_size : ℕ} → AreSizes bytes size → size ≤ 256
    → pair_bytes ≡ 2 * bytes → pair_size ≡ size * size → AreSizes pair_bytes pair_size
pair_sizes h small twice square =
    let one = small_size h small in
    inr (omega arith, square ∙ ap (λ n. n * n) one.1)

-- the number of a pair is below the square of the size
pair_below : {size pair_size a b : ℕ} → pair_size ≡ size * size → a < size → b < size → a + size * b < pair_size
pair_below {size} {pair_size} {a} {b} square p q = omega (arith, mul-add-lt b size a size q p)

-- of a number below the square of the size both parts are below the size
parts_below : {size pair_size n : ℕ} → pair_size ≡ size * size → n < pair_size → (n % size < size) × (n / size < size)
parts_below {size} {pair_size} {n} square h =
    let some : 0 < size = grind arith in
    let fits : n < size * size = omega arith in
    (mod_below n size some, div_below n size size some fits)

-- the number of the pair of a number's parts
number_of_parts : (size n : ℕ) {a b : ℕ} → a ≡ n % size → b ≡ n / size → a + size * b ≡ n
number_of_parts size n e f = ap₂ (λ a b. a + size * b) e f ∙ mod-add-div n size

-- the number of a pair with no high part
number_of_constant : (size : ℕ) {a b n : ℕ} → a ≡ n → b ≡ 0 → a + size * b ≡ n
number_of_constant size e f = ap₂ (λ a b. a + size * b) e f ∙ omega arith

-- the low part of a pair's number
low_of_pair : {size a : ℕ} (b : ℕ) → a < size → (a + size * b) % size ≡ a
low_of_pair {size} {a} b p = add-mul-mod_self_left a size b ∙ mod-eq_of_lt p

-- the high part of a pair's number
high_of_pair : {size a : ℕ} (b : ℕ) → a < size → (a + size * b) / size ≡ b
high_of_pair {size} {a} b p = let some : 0 < size = omega arith in rw (add-mul-div_left a b some, div-eq_of_lt p) (omega arith)

-- the exclusive or of two pairs of bytes is that of their parts
pair_xor : {size a c : ℕ} (b d : ℕ) → size ≡ 256 → a < size → c < size → bit_xor (a + size * b) (c + size * d) ≡ bit_xor a c + size * bit_xor b d
pair_xor {size} {a} {c} b d e p q =
    let turn : (m n : ℕ) → m + size * n ≡ n * 2 ^ 8 + m = λ m n. ap (λ s. m + s * n) e ∙ omega arith in
    rw (turn a b, turn c d, turn (bit_xor a c) (bit_xor b d)) (xor_block 8 b d a c (omega arith) (omega arith))

-- the product of two pairs, from their parts
pair_product-of_parts : {size a c : ℕ} (product : ℕ → ℕ → ℕ) (root b d : ℕ) → a < size → c < size
    → pair_product product size root (a + size * b) (c + size * d)
    ≡ bit_xor (product a c) (product root (product b d)) + size * bit_xor (bit_xor (product a d) (product b c)) (product b d)
unfolding pair_product
pair_product-of_parts product root b d p q = rw (low_of_pair b p, high_of_pair b p, low_of_pair d q, high_of_pair d q)

module _ {A : Type 0} {is_element : A → Type 0} {zero one : A} {add mul : A → A → A} {inv : A → A} {number : A → ℕ} {of_number : ℕ → A} {size : ℕ} {product : ℕ → ℕ → ℕ}
    (F : IsField is_element zero one add mul inv) (N : IsNumbering is_element zero one add mul number of_number size product) where
  -- a pair is the one with its number
  of_number-number : (x : Quad A) → AreElements is_element x → pair_of_number of_number size (pair_number number size x) ≡ x
  of_number-number x p =
      let small = N.number_below x.low p.0 in
      ap₂ pair (ap of_number (low_of_pair _ small) ∙ N.of_number_number x.low p.0) (ap of_number (high_of_pair _ small) ∙ N.of_number_number x.high p.1)

  -- the number of a sum of pairs
  number-pair_add : size ≡ 256 → (x y : Quad A) → AreElements is_element x → AreElements is_element y
      → pair_number number size (pair_add add x y) ≡ bit_xor (pair_number number size x) (pair_number number size y)
  number-pair_add e x y p q =
      let parts = pair_xor (number x.high) (number y.high) e (N.number_below x.low p.0) (N.number_below y.low q.0) in
      cc (N.number_add x.low y.low p.0 q.0, N.number_add x.high y.high p.1 q.1)

  -- the number of a product of pairs
  number-pair_mul : {root : A} {c : ℕ} → is_element root → number root ≡ c → (x y : Quad A) → AreElements is_element x → AreElements is_element y
      → pair_number number size (pair_mul add mul root x y) ≡ pair_product product size c (pair_number number size x) (pair_number number size y)
  number-pair_mul {root} {c} r e x y p q =
      let parts = pair_product-of_parts product c (number x.high) (number y.high) (N.number_below x.low p.0) (N.number_below y.low q.0) in
      simp (N.number_add, N.number_mul, F.add_element, F.mul_element, p.0, p.1, q.0, q.1, e) (sym parts)

  -- the numbers of pairs are numbers of elements
  pub pairs_numbering : {pair_size c : ℕ} → size ≡ 256 → pair_size ≡ size * size → c < size
      → IsNumbering (AreElements is_element) (pair zero zero) (pair one zero) (pair_add add) (pair_mul add mul (of_number c))
      (pair_number number size) (pair_of_number of_number size) pair_size (pair_product product size c)
  pairs_numbering {pair_size} {c} is square small = record {
    number_below = λ x p. pair_below square (N.number_below x.low p.0) (N.number_below x.high p.1);
    element_of_number = λ n h. let below = parts_below square h in (N.element_of_number _ below.0, N.element_of_number _ below.1);
    number_of_number = λ n h. let below = parts_below square h in number_of_parts size n (N.number_of_number _ below.0) (N.number_of_number _ below.1);
    of_number_number = of_number-number;
    number_zero = number_of_constant size N.number_zero N.number_zero;
    number_one = number_of_constant size N.number_one N.number_zero;
    number_add = number-pair_add is;
    number_mul = number-pair_mul (N.element_of_number c small) (N.number_of_number c small);
  }
