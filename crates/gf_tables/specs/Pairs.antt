-- Pairs over a smaller field: their operations, and their numbers.
use Rattle.std.specs.Prelude.{ℕ, ◌+◌, ◌*◌, ◌/◌, ◌%◌}
use Rattle.gf_tables.specs.declared.quad.Quad.{Quad}

-- low + high*y
abbrev pub pair : {A : Type 0} → A → A → Quad A
pair a b = record { low = a; high = b }

-- both parts of a pair are elements
abbrev pub AreElements : {A : Type 0} → (A → Type 0) → Quad A → Type 0
AreElements is_element x = is_element x.low × is_element x.high

-- the sum of two pairs
abbrev pub pair_add : {A : Type 0} → (A → A → A) → Quad A → Quad A → Quad A
pair_add add x y = pair (add x.low y.low) (add x.high y.high)

module _ {A : Type 0} (add mul : A → A → A) (root : A) where
  -- the product of two pairs
  abbrev pub pair_mul : Quad A → Quad A → Quad A
  pair_mul x y =
      let top = mul x.high y.high in
      pair (add (mul x.low y.low) (mul root top)) (add (add (mul x.low y.high) (mul x.high y.low)) top)

  -- the product of a + b*y and its conjugate, which has no high part
  abbrev pub norm : A → A → A
  norm a b = add (add (mul a a) (mul a b)) (mul root (mul b b))

  -- the conjugate of a pair, divided by the norm
  abbrev pub pair_inv : (A → A) → Quad A → Quad A
  pair_inv inv x = let d = inv (norm x.low x.high) in pair (mul (add x.low x.high) d) (mul x.high d)

-- the number of a pair: those of its parts are the digits to the base of the smaller field's size
abbrev pub pair_number : {A : Type 0} → (A → ℕ) → ℕ → Quad A → ℕ
pair_number number size x = number x.low + size * number x.high

-- the pair with a number
abbrev pub pair_of_number : {A : Type 0} → (ℕ → A) → ℕ → ℕ → Quad A
pair_of_number of_number size n = pair (of_number (n % size)) (of_number (n / size))
