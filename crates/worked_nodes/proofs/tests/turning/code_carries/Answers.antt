use Rattle.std.proofs.Common.{◌≡◌, refl, sym, ap, subst, ◌∙◌}
use Rattle.gf_tables.specs.Kind.{IsOfKind}
use Rattle.gf_tables.specs.Product.{octet_product, product}
use Rattle.gf_tables.specs.declared.kind.FieldKind.TheVariants.{Eight}
use Rattle.node_program.specs.declared.code.Code.{Code}
use Rattle.worked_nodes.proofs.tests.turning.code_carries.Goals as goal

pub carries_both-requires-clause-field : goal.carries_both-requires-clause-field
unfolding product
carries_both-requires-clause-field g c κs within =
    let is : c.args.code.now.field ≡ Eight = ap (λ (code : Code). code.field) (sym c.code.ensures.value) ∙ c.in-Eight.is in
    subst (λ kind. IsOfKind kind 256 1 8 (octet_product 285)) (sym is)
    (record { size = refl; bytes = refl; mark = refl; product_at = λ a b h k. refl })
