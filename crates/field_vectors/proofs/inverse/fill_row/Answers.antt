use Rattle.std.proofs.Common.{◌≡◌, ◌+◌, ◌<◌, length, arith, ap, ◌∙◌, set}
use Rattle.std.proofs.lemmas.List.{length-replicate}
use Rattle.field_vectors.proofs.FillSteps.{fill-more, fill-all}
use Rattle.field_vectors.proofs.GridLaws.{length-row_of}
use Rattle.field_vectors.specs.Grid.{row_of, with_row}
use Rattle.field_vectors.proofs.RowSteps.{joined_below}
use Rattle.field_vectors.proofs.inverse.fill_row.Goals as goal

pub loop-j-preserved : goal.loop-j-preserved
loop-j-preserved g c =
    let a = c.args.a.now in
    let old = c.args.work.now in
    let i = c.args.i in
    let n = length a.rows in
    let long = length-row_of a i c.columns-size.ensures.kept c.requires.row in
    let wide = ap length c.requires.zeros ∙ length-replicate (n + n) g.F.Field.zero in
    let below : i < length old.rows = omega (arith, c.requires.height, c.requires.row) in
    let within : c.loop-j.j < length (row_of old i) = omega (arith, wide, c.requires.square, c.columns-size.ensures.value) in
    let inside : c.loop-j.j < length (row_of a i) = omega (arith, long, c.columns-size.ensures.value) in
    fill-more g.F.Field.zero old c.loop-j.work c.set.new.self i c.loop-j.j (row_of a i) c.at.result below within inside c.loop-j.invariant c.at.ensures.value c.set.ensures.value

pub returns-clause-value : goal.returns-clause-value
returns-clause-value g c =
    let F = g.F.Field in
    let a = c.args.a.now in
    let old = c.args.work.now in
    let i = c.args.i in
    let n = length a.rows in
    let long = length-row_of a i c.columns-size.ensures.kept c.requires.row ∙ c.requires.square in
    let below : i < length old.rows = omega (arith, c.requires.height, c.requires.row) in
    let all : c.loop-j.j ≡ n = omega (arith, c.requires.square, c.columns-size.ensures.value) in
    let at : c.columns-size.result + i ≡ n + i = omega (arith, c.requires.square, c.columns-size.ensures.value) in
    let filled = c.loop-j.invariant ∙ ap (λ j. with_row old i (joined_below (λ x y. y) j (row_of old i) (row_of a i))) all in
    let put = c.set-2.ensures.value ∙ ap (λ x. with_row c.loop-j.work i (set (row_of c.loop-j.work i) (c.columns-size.result + i) x)) c.one.ensures.value in
    fill-all F.zero F.one old c.loop-j.work c.set-2.new.self i n (c.columns-size.result + i) (row_of a i) below c.requires.row long at c.requires.zeros filled put
