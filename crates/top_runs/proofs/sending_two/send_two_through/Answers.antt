use Rattle.std.proofs.Common.{◌≡◌, refl, sym, ap, subst, ◌∙◌}
use Rattle.gf_tables.specs.Kind.{IsOfKind}
use Rattle.gf_tables.specs.Product.{octet_product, pair_product, product}
use Rattle.gf_tables.specs.declared.kind.FieldKind.TheVariants.{Eight, Nine, Sixteen}
use Rattle.node_program.specs.declared.code.Code.{Code}
use Rattle.top_runs.proofs.sending_two.send_two_through.Goals as goal

pub send_two_over-requires-clause-field : goal.send_two_over-requires-clause-field
unfolding product
send_two_over-requires-clause-field g c κs within =
    let is : c.args.code.now.field ≡ Eight = ap (λ (code : Code). code.field) (sym c.code.ensures.value) ∙ c.in-Eight.is in
    subst (λ kind. IsOfKind kind 256 1 8 (octet_product 285)) (sym is)
    (record { size = refl; bytes = refl; mark = refl; product_at = λ a b h k. refl })

pub send_two_over-requires-in-Nine-clause-field : goal.send_two_over-requires-in-Nine-clause-field
unfolding product
send_two_over-requires-in-Nine-clause-field g c κs within =
    let is : c.args.code.now.field ≡ Nine = ap (λ (code : Code). code.field) (sym c.code.ensures.value) ∙ c.in-Nine.is in
    subst (λ kind. IsOfKind kind 256 1 9 (octet_product 283)) (sym is)
    (record { size = refl; bytes = refl; mark = refl; product_at = λ a b h k. refl })

pub send_two_over-requires-in-Sixteen-clause-field : goal.send_two_over-requires-in-Sixteen-clause-field
unfolding product
send_two_over-requires-in-Sixteen-clause-field g c κs within =
    let is : c.args.code.now.field ≡ Sixteen = ap (λ (code : Code). code.field) (sym c.code.ensures.value) ∙ c.in-Sixteen.is in
    subst (λ kind. IsOfKind kind 65536 2 16 (pair_product (octet_product 285) 256 32)) (sym is)
    (record { size = refl; bytes = refl; mark = refl; product_at = λ a b h k. refl })
