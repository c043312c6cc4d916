use Rattle.std.proofs.Common.{◌<◌, length, arith, ◌∙◌, ap, set, rules}
use Rattle.std.proofs.lemmas.List.Edits.{map_over_more}
use Rattle.field_vectors.proofs.rows.scale.Goals as goal

pub loop-place-preserved : goal.loop-place-preserved
loop-place-preserved g c =
    let F = g.F.Field in
    let within : c.loop-place.place < length c.args.into.now = omega arith in
    record {
      value =
          ap (set c.loop-place.into c.loop-place.place) c.mul.ensures.value
          ∙ map_over_more (F.mul c.args.by) c.args.into.now c.loop-place.into c.loop-place.place c.index-into-place.result within c.loop-place.invariant.value c.index-into-place.is;
      ticks = search rules;
    }
