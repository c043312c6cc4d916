-- A test, which computes, of whether t*t + t + c has a root among the bytes.
use Rattle.std.specs.Prelude.{◌≡◌, ◌≢◌, ◌<◌, ℕ, Bool, true, false, ◌==◌, bit_xor}
use Rattle.std.proofs.lemmas.Bool.{agree_below, agree_below_at, eq-eqb}
use Rattle.gf_tables.specs.Product.{octet_product}

-- t*t + t + c, over the octets
abbrev pub quadratic_value : ℕ → ℕ → ℕ → ℕ
quadratic_value poly c t = bit_xor (bit_xor (octet_product poly t t) t) c

-- whether t is a root
abbrev pub is_root : ℕ → ℕ → ℕ → Bool
is_root poly c t = quadratic_value poly c t == 0

-- no byte is a root where the test of each fails
pub no_root_from_test : (poly c : ℕ) → agree_below (is_root poly c) (λ _. false) 256 ≡ true → (t : ℕ) → t < 256 → quadratic_value poly c t ≢ 0
no_root_from_test poly c h t l e =
    let fails : is_root poly c t ≡ false = agree_below_at (is_root poly c) (λ _. false) 256 t h l in
    let passes : is_root poly c t ≡ true = eq-eqb (quadratic_value poly c t) 0 e in
    cc
