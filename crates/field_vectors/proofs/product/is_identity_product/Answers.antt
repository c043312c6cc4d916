use Rattle.std.proofs.Common.{length, refl, sym, ap, ◌∙◌, arith}
use Rattle.field_vectors.proofs.DifferenceLaws.{product_of-identity}
use Rattle.field_vectors.specs.Elements.{product_of}
use Rattle.field_vectors.proofs.product.is_identity_product.Goals as goal

pub returns-clause-ok : goal.returns-clause-ok
returns-clause-ok g c =
    let F = g.F.Field in
    let a = c.args.a.now in
    let b = c.args.b.now in
    let same = c.requires.same_columns in
    ap (λ width. product_of F.zero F.add F.mul width a.rows b.rows) (sym same)
    ∙ product_of-identity F.zero F.one F.add F.mul (length a.rows) a b refl same
    (λ i j below inside. c.loop-i.invariant.before i j (omega (arith, c.rows-i-end.ensures.value)) (omega (arith, same)))
