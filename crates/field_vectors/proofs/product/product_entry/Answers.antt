use Rattle.std.proofs.Common.{◌≡◌, ◌<◌, ◌+◌, ◌-◌, arith, ap, ◌∙◌, sym, drop, rules}
use Rattle.std.proofs.Math.Path.{ap₂}
use Rattle.field_vectors.proofs.ProductSteps.{product_entry-before}
use Rattle.field_vectors.specs.Elements.{dot_of, column_of}
use Rattle.field_vectors.specs.Grid.{row_of}
use Rattle.field_vectors.proofs.product.product_entry.Goals as goal

pub loop-k-preserved : goal.loop-k-preserved
loop-k-preserved g c =
    let F = g.F.Field in
    let a = c.args.a.now in
    let b = c.args.b.now in
    let k = c.loop-k.k in
    let within : k - 1 < a.columns = omega arith in
    let more : k - 1 + 1 ≡ k = omega arith in
    let step = product_entry-before F.zero F.add F.mul a b c.args.i c.args.j (k - 1) c.columns-k.ensures.kept c.requires.row within c.requires.inner in
    record {
      within = omega arith;
      value =
          c.add-sum.ensures.value
          ∙ ap₂ F.add (c.mul.ensures.value ∙ ap₂ F.mul c.at.ensures.value c.at-in-loop-k.ensures.value)
          (c.loop-k.invariant.value ∙ ap (λ n. dot_of F.zero F.add F.mul (drop n (row_of a c.args.i)) (drop n (column_of F.zero c.args.j b.rows))) (sym more))
          ∙ sym step;
      ticks = search rules;
    }
