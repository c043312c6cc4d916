-- The tables of powers and logarithms of a generator.
use Rattle.std.specs.Prelude.{◌≡◌, ◌≢◌, ◌<◌, ℕ, List, zero, suc, ◌++◌, ◌-◌, length, replicate, slice_index, slice_set}
use Rattle.gf_tables.specs.Product.{IsOctic, octet_product}

-- a generator to the power k
unfoldable pub power : ℕ → ℕ → ℕ → ℕ
power poly gen zero = 1
power poly gen (suc k) = octet_product poly (power poly gen k) gen

-- one divided by a nonzero octet, by the table of logarithms
abbrev pub octet_inverse : ℕ → ℕ → List ℕ → ℕ → ℕ
octet_inverse poly gen log x = power poly gen (255 - slice_index log x)

-- place k of the table is the generator to the power k
pub record ArePowers (poly gen : ℕ) (exp : List ℕ) : Type 0 where
  pub count : length exp ≡ 255
  pub at : (k : ℕ) → k < 255 → slice_index exp k ≡ power poly gen k

-- the table gives for each nonzero byte its one place among the powers
pub record AreLogarithms (exp log : List ℕ) : Type 0 where
  pub count : length log ≡ 256
  pub below : (a : ℕ) → a ≢ 0 → a < 256 → slice_index log a < 255
  pub at : (a : ℕ) → a ≢ 0 → a < 256 → slice_index exp (slice_index log a) ≡ a
  pub of_power : (k : ℕ) → k < 255 → slice_index log (slice_index exp k) ≡ k

-- the tables of a generator, modulo a polynomial of degree 8
pub record AreTables (poly gen : ℕ) (exp log : List ℕ) : Type 0 where
  pub degree : IsOctic poly
  pub generator : gen < 256
  pub powers : ArePowers poly gen exp
  pub logarithms : AreLogarithms exp log
  pub cycle : power poly gen 255 ≡ 1

-- the powers twice over, and zeros behind them
abbrev pub long_powers : List ℕ → List ℕ
long_powers exp = exp ++ (exp ++ replicate 514 0)

-- the logarithms, and for zero what takes each sum with it past all powers
abbrev pub long_logarithms : List ℕ → List ℕ
long_logarithms log = slice_set log 0 511
