use Rattle.std.proofs.Common.{refl}
use Rattle.gf_tables.specs.Product.{product}
use Rattle.top_tools.proofs.twinning.make.Goals as goal

pub make_over-requires-clause-field : goal.make_over-requires-clause-field
unfolding product
make_over-requires-clause-field g c κs within = record { size = refl; bytes = refl; mark = refl; product_at = λ a b h k. refl }

pub make_over-requires-in-Some-Sixteen-clause-field : goal.make_over-requires-in-Some-Sixteen-clause-field
unfolding product
make_over-requires-in-Some-Sixteen-clause-field g c κs within =
    record { size = refl; bytes = refl; mark = refl; product_at = λ a b h k. refl }
