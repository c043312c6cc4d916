use Rattle.std.proofs.Common.{refl, subst, sym}
use Rattle.gf_tables.specs.Kind.{IsOfKind}
use Rattle.gf_tables.specs.Product.{octet_product, product}
use Rattle.worked_nodes.proofs.tests.fabrics.is_right.Goals as goal

pub gives-requires-clause-field : goal.gives-requires-clause-field
unfolding product
gives-requires-clause-field c =
    subst (λ kind. IsOfKind kind 256 1 8 (octet_product 285)) (sym c.in-Eight.is)
    (record { size = refl; bytes = refl; mark = refl; product_at = λ a b h k. refl })
