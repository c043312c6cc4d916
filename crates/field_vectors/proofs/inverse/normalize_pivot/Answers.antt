use Rattle.std.proofs.Common.{◌≡◌, ◌≢◌, ◌≤◌, arith, ap, ◌∙◌, sym}
use Rattle.field_vectors.proofs.DotOfLaws.{mul-nought}
use Rattle.field_vectors.specs.Elements.{multiple_of}
use Rattle.field_vectors.proofs.EliminationLaws.{step-scale, reduced-scale, entry-normalized, entry_of-element, one_not_nought}
use Rattle.field_vectors.specs.Grid.{row_of, entry_of, with_row}
use Rattle.field_vectors.proofs.inverse.normalize_pivot.Goals as goal
use Rattle.field_vectors.proofs.inverse.normalize_pivot.Goals.{After-inv-by}

-- the multiplier is the inverse of the entry
by_is : (g : _) (c : After-inv-by g) → c.inv-by.result ≡ g.F.Field.inv (entry_of g.F.Field.zero c.args.work.now c.args.k c.args.k)
by_is g c = c.inv-by.ensures.value ∙ ap g.F.Field.inv c.at.ensures.value

-- so it is not zero
nonzero : (g : _) (c : After-inv-by g) → c.inv-by.result ≢ g.F.Field.zero
nonzero g c e =
    let F = g.F.Field in
    let L = g.met.F.Field.field in
    let m = c.args.work.now in
    let k = c.args.k in
    let x = entry_of F.zero m k k in
    let p = entry_of-element L m k k c.at.ensures.kept c.requires.row c.requires.column in
    one_not_nought g.met.F.Field.numbering (sym (L.mul_inv x p c.requires.nonzero) ∙ ap (F.mul x) (sym (by_is g c) ∙ e) ∙ mul-nought L x p)

pub returns-clause-step : goal.returns-clause-step
returns-clause-step g c =
    let s = (goal.at.returns-clause-step g c).After-inv-by in
    rw c.scale_row.ensures.value
    (step-scale g.met.F.Field.field c.args.work.now c.args.k c.inv-by.result c.at.ensures.kept c.requires.row c.inv-by.ensures.element (nonzero g s))

pub returns-clause-kept : goal.returns-clause-kept
returns-clause-kept g c =
    let m = c.args.work.now in
    let wide : c.args.k ≤ m.columns = omega (arith, c.requires.column) in
    rw c.scale_row.ensures.value
    (reduced-scale g.met.F.Field.field m c.args.k c.args.k c.inv-by.result c.at.ensures.kept c.requires.reduced wide c.requires.row (omega arith) c.inv-by.ensures.element)

pub returns-clause-one : goal.returns-clause-one
returns-clause-one g c =
    let s = (goal.at.returns-clause-one g c).After-inv-by in
    let F = g.F.Field in
    let m = c.args.work.now in
    let k = c.args.k in
    ap (λ v. entry_of F.zero v k k) (c.scale_row.ensures.value ∙ ap (λ by. with_row m k (multiple_of F.mul by (row_of m k))) (by_is g s))
    ∙ entry-normalized g.met.F.Field.field m k c.at.ensures.kept c.requires.row c.requires.column c.requires.nonzero
