use Rattle.std.proofs.Common.{◌≡◌, refl, sym, ap, subst, ◌∙◌}
use Rattle.gf_tables.specs.Kind.{IsOfKind}
use Rattle.gf_tables.specs.Product.{octet_product, pair_product, product}
use Rattle.gf_tables.specs.declared.kind.FieldKind.TheVariants.{Eight, Nine, Sixteen}
use Rattle.node_program.specs.declared.code.Code.{Code}
use Rattle.top_nodes.proofs.relaying.relay_through.Goals as goal

pub relay_over-requires : goal.relay_over-requires
unfolding product
relay_over-requires g c =
    let is : c.args.code.now.field ≡ Eight = ap (λ (code : Code). code.field) (sym c.code.ensures.value) ∙ c.in-Eight.is in
    subst (λ kind. IsOfKind kind 256 1 8 (octet_product 285)) (sym is)
    (record { size = refl; bytes = refl; mark = refl; product_at = λ a b h k. refl })

pub relay_over-requires-in-Nine : goal.relay_over-requires-in-Nine
unfolding product
relay_over-requires-in-Nine g c =
    let is : c.args.code.now.field ≡ Nine = ap (λ (code : Code). code.field) (sym c.code.ensures.value) ∙ c.in-Nine.is in
    subst (λ kind. IsOfKind kind 256 1 9 (octet_product 283)) (sym is)
    (record { size = refl; bytes = refl; mark = refl; product_at = λ a b h k. refl })

pub relay_over-requires-in-Sixteen : goal.relay_over-requires-in-Sixteen
unfolding product
relay_over-requires-in-Sixteen g c =
    let is : c.args.code.now.field ≡ Sixteen = ap (λ (code : Code). code.field) (sym c.code.ensures.value) ∙ c.in-Sixteen.is in
    subst (λ kind. IsOfKind kind 65536 2 16 (pair_product (octet_product 285) 256 32)) (sym is)
    (record { size = refl; bytes = refl; mark = refl; product_at = λ a b h k. refl })
