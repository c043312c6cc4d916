use Rattle.std.proofs.Common.{◌<◌, length, arith, ap, ◌∙◌}
use Rattle.field_vectors.proofs.ClearSteps.{clearing-skip, clearing-more}
use Rattle.field_vectors.specs.Elements.{plus_multiple}
use Rattle.field_vectors.proofs.EliminationLaws.{step-none, reduced-more}
use Rattle.field_vectors.specs.Grid.{row_of, with_row}
use Rattle.field_vectors.proofs.inverse.clear_column.Goals as goal
use Rattle.field_vectors.proofs.inverse.clear_column.Goals.{then-i-k, else-i-k}

pub loop-i-init : goal.loop-i-init
loop-i-init g c = record {
  step = step-none g.met.F.Field.field c.args.work.now c.rows-i-end.ensures.kept;
  reduced = c.requires.reduced;
  unit = c.requires.one;
  cleared = λ r below other. absurd (omega arith);
}

pub loop-i-preserved : goal.loop-i-preserved
loop-i-preserved g c =
    let F = g.F.Field in
    let m = c.loop-i.work in
    let i = c.loop-i.i in
    let k = c.args.k in
    let old = c.args.work.now in
    let h = c.loop-i.invariant in
    let below : i < length old.rows = omega (arith, c.rows-i-end.ensures.value) in
    elim c.if-i-k.branch [
      | then-i-k w ↦
          (let made = w.work-is ∙ w.add_row.ensures.value ∙ ap (λ by. with_row m i (plus_multiple F.add F.mul (row_of m i) by (row_of m k))) w.at-by.ensures.value in
          rw made (clearing-more g.met.F.Field.field old m k i h w.if-i-k.true below c.requires.row c.requires.column))
      | else-i-k w ↦ rw w.work-is (clearing-skip old m k i h w.if-i-k.false)
    ]

pub returns-clause-cleared : goal.returns-clause-cleared
returns-clause-cleared g c =
    let h = c.loop-i.invariant in
    reduced-more g.met.F.Field.field c.loop-i.work c.args.k h.reduced h.unit (λ i below other. h.cleared i (omega (arith, c.rows-i-end.ensures.value, h.step.height)) other)
