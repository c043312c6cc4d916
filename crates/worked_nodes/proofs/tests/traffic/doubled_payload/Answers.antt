use Rattle.std.proofs.Common.{refl}
use Rattle.gf_tables.specs.Product.{shift, repeated_shift, sum_of_shifts, octet_product, product}
use Rattle.node_program.specs.Value.{value_within}
use Rattle.test_support.specs.OneLink.{doubled_one_link}
use Rattle.worked_nodes.proofs.tests.traffic.doubled_payload.Goals as goal

pub returns : goal.returns
unfolding value_within product octet_product sum_of_shifts repeated_shift shift doubled_one_link
returns c = refl
