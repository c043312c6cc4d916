-- The product computes.
use Rattle.std.proofs.Common.{refl}
use Rattle.gf_tables.specs.Product.{shift, repeated_shift, sum_of_shifts, octet_product, product}
use Rattle.worked_rows.proofs.tests.products.product_of_cipher.Goals as goal

pub returns : goal.returns
unfolding product octet_product sum_of_shifts repeated_shift shift
returns c = refl
