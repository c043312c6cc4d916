use Rattle.std.proofs.Common.{refl, sym, subst}
use Rattle.gf_tables.specs.Kind.{IsOfKind}
use Rattle.gf_tables.specs.Product.{octet_product, pair_product, product}
use Rattle.top_blind.proofs.blinding.blind_through.Goals as goal

pub blind_over-requires : goal.blind_over-requires
unfolding product
blind_over-requires g c =
    subst (λ kind. IsOfKind kind 256 1 8 (octet_product 285)) (sym c.in-Eight.is)
    (record { size = refl; bytes = refl; mark = refl; product_at = λ a b h k. refl })

pub blind_over-requires-in-Nine : goal.blind_over-requires-in-Nine
unfolding product
blind_over-requires-in-Nine g c =
    subst (λ kind. IsOfKind kind 256 1 9 (octet_product 283)) (sym c.in-Nine.is)
    (record { size = refl; bytes = refl; mark = refl; product_at = λ a b h k. refl })

pub blind_over-requires-in-Sixteen : goal.blind_over-requires-in-Sixteen
unfolding product
blind_over-requires-in-Sixteen g c =
    subst (λ kind. IsOfKind kind 65536 2 16 (pair_product (octet_product 285) 256 32)) (sym c.in-Sixteen.is)
    (record { size = refl; bytes = refl; mark = refl; product_at = λ a b h k. refl })
