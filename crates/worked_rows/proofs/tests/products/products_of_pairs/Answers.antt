-- The products compute.
use Rattle.std.proofs.Common.{refl}
use Rattle.gf_tables.specs.Product.{shift, repeated_shift, sum_of_shifts, octet_product, pair_product, product}
use Rattle.worked_rows.proofs.tests.products.products_of_pairs.Goals as goal

pub returns : goal.returns
unfolding product pair_product octet_product sum_of_shifts repeated_shift shift
returns c = record { square = refl; inverse = refl }
