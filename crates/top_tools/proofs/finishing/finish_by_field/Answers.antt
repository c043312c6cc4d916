use Rattle.std.proofs.Common.{refl, sym, subst}
use Rattle.gf_tables.specs.Kind.{IsOfKind}
use Rattle.gf_tables.specs.Product.{octet_product, pair_product, product}
use Rattle.top_tools.proofs.finishing.finish_by_field.Goals as goal

pub finish_over-requires : goal.finish_over-requires
unfolding product
finish_over-requires g c =
    subst (λ kind. IsOfKind kind 256 1 8 (octet_product 285)) (sym c.in-Eight.is)
    (record { size = refl; bytes = refl; mark = refl; product_at = λ a b h k. refl })

pub finish_over-requires-in-Nine : goal.finish_over-requires-in-Nine
unfolding product
finish_over-requires-in-Nine g c =
    subst (λ kind. IsOfKind kind 256 1 9 (octet_product 283)) (sym c.in-Nine.is)
    (record { size = refl; bytes = refl; mark = refl; product_at = λ a b h k. refl })

pub finish_over-requires-in-Sixteen : goal.finish_over-requires-in-Sixteen
unfolding product
finish_over-requires-in-Sixteen g c =
    subst (λ kind. IsOfKind kind 65536 2 16 (pair_product (octet_product 285) 256 32)) (sym c.in-Sixteen.is)
    (record { size = refl; bytes = refl; mark = refl; product_at = λ a b h k. refl })
