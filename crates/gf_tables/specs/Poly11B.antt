-- The field of 256 elements modulo x^8 + x^4 + x^3 + x + 1, that of FIPS 197.
use Rattle.std.specs.Prelude.{refl}
use Rattle.gf_tables.specs.Product.{shift, repeated_shift, sum_of_shifts, octet_product, aes_polynomial}
use Rattle.gf_tables.specs.Powers.{AreTables}
use Rattle.gf_tables.specs.TablesTest.{tables_from_test}
use Rattle.gf_tables.specs.declared.poly_11b.TheConstants.{EXP_11B, LOG_11B}

-- 3 generates the nonzero bytes: the test of the tables computes
pub poly11B-tables : AreTables aes_polynomial 3 EXP_11B LOG_11B
unfolding shift repeated_shift sum_of_shifts octet_product
poly11B-tables = tables_from_test aes_polynomial 3 EXP_11B LOG_11B refl
