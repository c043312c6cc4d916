use Rattle.std.proofs.Common.{◌<◌, length, arith, ap, ◌∙◌, sym}
use Rattle.field_vectors.specs.Elements.{plus_multiple}
use Rattle.field_vectors.proofs.EliminationLaws.{step-add, reduced-add, entry-lifted}
use Rattle.field_vectors.specs.Grid.{row_of, entry_of, with_row}
use Rattle.field_vectors.proofs.inverse.lift_pivot.Goals as goal

pub returns-then-pivot-k-clause-step : goal.returns-then-pivot-k-clause-step
returns-then-pivot-k-clause-step g c =
    let m = c.args.work.now in
    let P = c.requires.pivot in
    let below : c.args.k < length m.rows = omega (arith, P.from, P.below) in
    rw c.add_row.ensures.value
    (step-add g.met.F.Field.field m c.args.k c.one.result c.args.pivot c.requires.matrix below P.below (λ e. c.if-pivot-k.true (sym e)) c.one.ensures.element)

pub returns-then-pivot-k-clause-kept : goal.returns-then-pivot-k-clause-kept
returns-then-pivot-k-clause-kept g c =
    let m = c.args.work.now in
    let P = c.requires.pivot in
    let below : c.args.k < length m.rows = omega (arith, P.from, P.below) in
    rw c.add_row.ensures.value
    (reduced-add g.met.F.Field.field m c.args.k c.args.k c.one.result c.args.pivot c.requires.matrix c.requires.reduced (omega arith) below P.below P.from c.one.ensures.element)

pub returns-then-pivot-k-clause-nonzero : goal.returns-then-pivot-k-clause-nonzero
returns-then-pivot-k-clause-nonzero g c e =
    let F = g.F.Field in
    let m = c.args.work.now in
    let k = c.args.k in
    let P = c.requires.pivot in
    let below : k < length m.rows = omega (arith, P.from, P.below) in
    let first : k < c.args.pivot = omega (arith, P.from, c.if-pivot-k.true) in
    let zeroed = P.first k (omega arith) first in
    let made = c.add_row.ensures.value ∙ ap (λ by. with_row m k (plus_multiple F.add F.mul (row_of m k) by (row_of m c.args.pivot))) c.one.ensures.value in
    let lifted = ap (λ v. entry_of F.zero v k k) made ∙ entry-lifted g.met.F.Field.field m k c.args.pivot c.requires.matrix below P.below c.requires.column zeroed in
    P.value (sym lifted ∙ e)
