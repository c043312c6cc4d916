use Rattle.std.proofs.Common.{◌<◌, length, arith, ap, ◌∙◌, rules}
use Rattle.field_vectors.proofs.RowSteps.{joined_below-written, joined_below-all}
use Rattle.field_vectors.proofs.rows.add_scaled.Goals as goal

pub loop-place-preserved : goal.loop-place-preserved
loop-place-preserved g c =
    let F = g.F.Field in
    let within : c.loop-place.place < length c.args.into.now = omega arith in
    let inside : c.loop-place.place < length c.args.from.now = omega arith in
    record {
      value =
          joined_below-written (λ x y. F.add x (F.mul c.args.by y)) c.loop-place.place c.args.into.now c.args.from.now c.loop-place.into c.index-into-place.result c.index-from-place.result c.add.result
          within inside c.loop-place.invariant.value c.index-into-place.is c.index-from-place.is (c.add.ensures.value ∙ ap (F.add c.index-into-place.result) c.mul.ensures.value);
      ticks = search rules;
    }

pub returns-clause-value : goal.returns-clause-value
returns-clause-value g c =
    let F = g.F.Field in
    c.loop-place.invariant.value ∙ joined_below-all (λ x y. F.add x (F.mul c.args.by y)) c.loop-place.place c.args.into.now c.args.from.now c.requires (omega arith)
