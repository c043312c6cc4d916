-- The field of 256 elements modulo x^8 + x^4 + x^3 + x^2 + 1.
use Rattle.std.specs.Prelude.{◌≢◌, ◌<◌, ℕ, refl, bit_xor}
use Rattle.gf_tables.specs.NoRoot.{no_root_from_test}
use Rattle.gf_tables.specs.Product.{shift, repeated_shift, sum_of_shifts, octet_product, octet_polynomial, pair_constant}
use Rattle.gf_tables.specs.Powers.{AreTables}
use Rattle.gf_tables.specs.TablesTest.{tables_from_test}
use Rattle.gf_tables.specs.declared.poly_11d.TheConstants.{EXP_11D, LOG_11D}

-- 2 generates the nonzero bytes: the test of the tables computes
pub poly11D-tables : AreTables octet_polynomial 2 EXP_11D LOG_11D
unfolding shift repeated_shift sum_of_shifts octet_product
poly11D-tables = tables_from_test octet_polynomial 2 EXP_11D LOG_11D refl

-- t*t + t + C is never zero: the test of each byte computes
pub poly11D-no_root : (t : ℕ) → t < 256 → bit_xor (bit_xor (octet_product octet_polynomial t t) t) pair_constant ≢ 0
unfolding shift repeated_shift sum_of_shifts octet_product
poly11D-no_root = no_root_from_test octet_polynomial pair_constant refl
