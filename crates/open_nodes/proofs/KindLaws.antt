-- The fields, by their kinds.
use Rattle.std.proofs.Common.{◌≡◌, refl, sym, subst}
use Rattle.gf_tables.specs.Kind.{IsOfKind}
use Rattle.gf_tables.specs.Product.{octet_product, pair_product, product}
use Rattle.gf_tables.specs.declared.kind.FieldKind.{FieldKind}
use Rattle.gf_tables.specs.declared.kind.FieldKind.TheVariants.{Eight, Nine, Sixteen}

pub of_eight : (field : FieldKind) → field ≡ Eight → IsOfKind field 256 1 8 (octet_product 285)
unfolding product
of_eight field is =
    subst (λ kind. IsOfKind kind 256 1 8 (octet_product 285)) (sym is)
    (record { size = refl; bytes = refl; mark = refl; product_at = λ a b h k. refl })

pub of_nine : (field : FieldKind) → field ≡ Nine → IsOfKind field 256 1 9 (octet_product 283)
unfolding product
of_nine field is =
    subst (λ kind. IsOfKind kind 256 1 9 (octet_product 283)) (sym is)
    (record { size = refl; bytes = refl; mark = refl; product_at = λ a b h k. refl })

pub of_sixteen : (field : FieldKind) → field ≡ Sixteen → IsOfKind field 65536 2 16 (pair_product (octet_product 285) 256 32)
unfolding product
of_sixteen field is =
    subst (λ kind. IsOfKind kind 65536 2 16 (pair_product (octet_product 285) 256 32)) (sym is)
    (record { size = refl; bytes = refl; mark = refl; product_at = λ a b h k. refl })
