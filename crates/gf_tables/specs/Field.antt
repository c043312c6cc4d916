-- What a field is, and what numbers its elements have.
use Rattle.std.specs.Prelude.{◌≡◌, ◌≢◌, ◌<◌, ◌⊎◌, ℕ, bit_xor}

-- a field in which each element is its own opposite, of the values that are elements
pub record IsField {A : Type 0} (is_element : A → Type 0) (zero one : A) (add mul : A → A → A) (inv : A → A) : Type 0 where
  pub zero_element : is_element zero
  pub one_element : is_element one
  pub add_element : (x y : A) → is_element x → is_element y → is_element (add x y)
  pub mul_element : (x y : A) → is_element x → is_element y → is_element (mul x y)
  pub inv_element : (x : A) → is_element x → x ≢ zero → is_element (inv x)
  pub add_comm : (x y : A) → is_element x → is_element y → add x y ≡ add y x
  pub add_assoc : (x y z : A) → is_element x → is_element y → is_element z → add (add x y) z ≡ add x (add y z)
  pub zero_add : (x : A) → is_element x → add zero x ≡ x
  pub add_self : (x : A) → is_element x → add x x ≡ zero
  pub mul_comm : (x y : A) → is_element x → is_element y → mul x y ≡ mul y x
  pub mul_assoc : (x y z : A) → is_element x → is_element y → is_element z → mul (mul x y) z ≡ mul x (mul y z)
  pub one_mul : (x : A) → is_element x → mul one x ≡ x
  pub mul_add : (x y z : A) → is_element x → is_element y → is_element z → mul x (add y z) ≡ add (mul x y) (mul x z)
  pub mul_nonzero : (x y : A) → is_element x → is_element y → x ≢ zero → y ≢ zero → mul x y ≢ zero
  pub mul_inv : (x : A) → is_element x → x ≢ zero → mul x (inv x) ≡ one

-- the two sizes that fields have
abbrev pub AreSizes : ℕ → ℕ → Type 0
AreSizes bytes size = ((bytes ≡ 1) × (size ≡ 256)) ⊎ ((bytes ≡ 2) × (size ≡ 65536))

-- Each number below the size is that of one element. On numbers the sum is the exclusive or.
pub record IsNumbering {A : Type 0} (is_element : A → Type 0) (zero one : A) (add mul : A → A → A)
    (number : A → ℕ) (of_number : ℕ → A) (size : ℕ) (product : ℕ → ℕ → ℕ) : Type 0 where
  pub number_below : (x : A) → is_element x → number x < size
  pub element_of_number : (n : ℕ) → n < size → is_element (of_number n)
  pub number_of_number : (n : ℕ) → n < size → number (of_number n) ≡ n
  pub of_number_number : (x : A) → is_element x → of_number (number x) ≡ x
  pub number_zero : number zero ≡ 0
  pub number_one : number one ≡ 1
  pub number_add : (x y : A) → is_element x → is_element y → number (add x y) ≡ bit_xor (number x) (number y)
  pub number_mul : (x y : A) → is_element x → is_element y → number (mul x y) ≡ product (number x) (number y)
