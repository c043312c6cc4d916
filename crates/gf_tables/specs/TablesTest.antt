-- A test of the tables of a generator, which computes, and what follows where it passes.
use Rattle.std.specs.Prelude.{◌≡◌, ◌≢◌, ◌<◌, ℕ, List, [], ◌∷◌, Bool, true, zero, suc, ◌+◌, length, slice_index, nat_lt, nat_le, ◌==◌, ◌&&◌, ◌||◌}
use Rattle.std.proofs.Common.{arith, ap, sym, ◌∙◌, add-zero, zero-add, inl, inr}
use Rattle.std.proofs.lemmas.Bool.{eqb-true, ltb-true, leb-true, and_parts, or_cases, agree_below, agree_below_at}
use Rattle.gf_tables.specs.Product.{octet_product}
use Rattle.gf_tables.specs.Powers.{power, ArePowers, AreLogarithms, AreTables}

-- the list has x times each power of the generator in turn, and x times the next power is 1
abbrev runs_to_one : ℕ → ℕ → ℕ → List ℕ → Bool
runs_to_one poly gen x [] = x == 1
runs_to_one poly gen x (y ∷ ys) = y == x && runs_to_one poly gen (octet_product poly x gen) ys

-- the byte a is zero, or the power at its logarithm
abbrev has_logarithm : List ℕ → List ℕ → ℕ → Bool
has_logarithm exp log a = a == 0 || (nat_lt (slice_index log a) 255 && slice_index exp (slice_index log a) == a)

-- k is the logarithm of power k
abbrev is_logarithm : List ℕ → List ℕ → ℕ → Bool
is_logarithm exp log k = slice_index log (slice_index exp k) == k

-- the polynomial has degree 8, and the generator is a byte
abbrev are_bytes : ℕ → ℕ → Bool
are_bytes poly gen = nat_le 256 poly && nat_lt poly 512 && nat_lt gen 256

-- the table has the powers, and they come back to 1
abbrev has_powers : ℕ → ℕ → List ℕ → Bool
has_powers poly gen exp = length exp == 255 && runs_to_one poly gen 1 exp

-- the table has the logarithms of bytes and of powers
abbrev has_logarithms : List ℕ → List ℕ → Bool
has_logarithms exp log =
    length log == 256 && agree_below (has_logarithm exp log) (λ _. true) 256
    && agree_below (is_logarithm exp log) (λ _. true) 255

-- the tables are those of the generator
abbrev pub are_tables : ℕ → ℕ → List ℕ → List ℕ → Bool
are_tables poly gen exp log = are_bytes poly gen && has_powers poly gen exp && has_logarithms exp log

-- a table that runs to one has the powers, from power j on
powers_from_run : (poly gen j k : ℕ) (exp : List ℕ) → runs_to_one poly gen (power poly gen j) exp ≡ true → k < length exp → slice_index exp k ≡ power poly gen (j + k)
unfolding power
powers_from_run poly gen j k [] h l = absurd (omega arith)
powers_from_run poly gen j zero (y ∷ ys) h l = eqb-true y (power poly gen j) (and_parts _ _ h).0 ∙ ap (power poly gen) (sym (add-zero j))
powers_from_run poly gen j (suc k) (y ∷ ys) h l =
    powers_from_run poly gen (suc j) k ys (and_parts _ _ h).1 (omega arith) ∙ ap (power poly gen) (omega arith)

-- past a table that runs to one the power is 1
cycle_from_run : (poly gen j : ℕ) (exp : List ℕ) → runs_to_one poly gen (power poly gen j) exp ≡ true → power poly gen (j + length exp) ≡ 1
unfolding power
cycle_from_run poly gen j [] h = ap (power poly gen) (add-zero j) ∙ eqb-true (power poly gen j) 1 h
cycle_from_run poly gen j (y ∷ ys) h =
    ap (power poly gen) (omega arith) ∙ cycle_from_run poly gen (suc j) ys (and_parts _ _ h).1

-- a table with the powers
powers_from_test : (poly gen : ℕ) (exp : List ℕ) → has_powers poly gen exp ≡ true → ArePowers poly gen exp
unfolding power
powers_from_test poly gen exp h =
    let p = and_parts (length exp == 255) (runs_to_one poly gen 1 exp) h in
    let count : length exp ≡ 255 = eqb-true (length exp) 255 p.0 in
    record {
      count = count;
      at = λ k l. powers_from_run poly gen 0 k exp p.1 (omega arith) ∙ ap (power poly gen) (zero-add k);
    }

-- a table with the powers has 255 of them, and power 255 is 1
cycle_from_test : (poly gen : ℕ) (exp : List ℕ) → has_powers poly gen exp ≡ true → power poly gen 255 ≡ 1
unfolding power
cycle_from_test poly gen exp h =
    let p = and_parts (length exp == 255) (runs_to_one poly gen 1 exp) h in
    let count : length exp ≡ 255 = eqb-true (length exp) 255 p.0 in
    let e : 0 + length exp ≡ 255 = omega arith in
    rw e at (cycle_from_run poly gen 0 exp p.1)

-- a nonzero byte's logarithm
module _ (exp log : List ℕ) (a : ℕ) (h : has_logarithm exp log a ≡ true) (n : a ≢ 0) where
  logarithm_from_test : (slice_index log a < 255) × (slice_index exp (slice_index log a) ≡ a)
  logarithm_from_test =
      elim (or_cases (a == 0) _ h) [
        | inl z ↦ absurd (n (eqb-true a 0 z))
        | inr t ↦
            let p = and_parts _ _ t in
            (ltb-true (slice_index log a) 255 p.0, eqb-true (slice_index exp (slice_index log a)) a p.1)
      ]

-- a table with the logarithms
logarithms_from_test : (exp log : List ℕ) → has_logarithms exp log ≡ true → AreLogarithms exp log
logarithms_from_test exp log h =
    let p = and_parts _ _ h in
    let q = and_parts _ _ p.0 in
    let here : (a : ℕ) → a < 256 → has_logarithm exp log a ≡ true =
    λ a k. agree_below_at (has_logarithm exp log) (λ _. true) 256 a q.1 k
    in
    let back : (k : ℕ) → k < 255 → is_logarithm exp log k ≡ true =
    λ k l. agree_below_at (is_logarithm exp log) (λ _. true) 255 k p.1 l
    in
    record {
      count = eqb-true (length log) 256 q.0;
      below = λ a n k. (logarithm_from_test exp log a (here a k) n).0;
      at = λ a n k. (logarithm_from_test exp log a (here a k) n).1;
      of_power = λ k l. eqb-true (slice_index log (slice_index exp k)) k (back k l);
    }

-- tables that pass the test are those of the generator
pub tables_from_test : (poly gen : ℕ) (exp log : List ℕ) → are_tables poly gen exp log ≡ true → AreTables poly gen exp log
tables_from_test poly gen exp log h =
    let p = and_parts (are_bytes poly gen && has_powers poly gen exp) (has_logarithms exp log) h in
    let q = and_parts (are_bytes poly gen) (has_powers poly gen exp) p.0 in
    let r = and_parts (nat_le 256 poly && nat_lt poly 512) (nat_lt gen 256) q.0 in
    let s = and_parts (nat_le 256 poly) (nat_lt poly 512) r.0 in
    record {
      degree = (leb-true 256 poly s.0, ltb-true poly 512 s.1);
      generator = ltb-true gen 256 r.1;
      powers = powers_from_test poly gen exp q.1;
      logarithms = logarithms_from_test exp log p.1;
      cycle = cycle_from_test poly gen exp q.1;
    }
