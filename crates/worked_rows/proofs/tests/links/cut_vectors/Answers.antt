-- The values compute on the unit vectors.
use Rattle.std.proofs.Common.{refl}
use Rattle.gf_tables.specs.Product.{shift, repeated_shift, sum_of_shifts, octet_product, product}
use Rattle.node_program.specs.Value.{value_within}
use Rattle.test_support.specs.CutButterfly.{cut_butterfly}
use Rattle.worked_rows.proofs.tests.links.cut_vectors.Goals as goal

pub returns : goal.returns
unfolding value_within product octet_product sum_of_shifts repeated_shift shift cut_butterfly
returns c = record { failed = refl; each = refl }
