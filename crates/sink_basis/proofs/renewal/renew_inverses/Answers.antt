use Rattle.std.proofs.Common.{◌≡◌, ◌≢◌, ℕ, ◌+◌, ◌-◌, length, arith, ap, ◌∙◌, subst, sym}
use Rattle.std.proofs.lemmas.List.{length-set}
use Rattle.counted_steps.specs.Steps.{RoseBy}
use Rattle.field_vectors.specs.Grid.{row_of}
use Rattle.field_vectors.proofs.GridLaws.{row_of-with_other}
use Rattle.sink_basis.specs.Renewal.{others_changed}
use Rattle.sink_basis.proofs.RenewalSteps.{all_steps, dot_of-wide, few_steps, others_changed-few, others_changed-same}
use Rattle.sink_basis.proofs.renewal.renew_inverses.Goals as goal

pub returns-clause-ticks : goal.returns-clause-ticks
returns-clause-ticks g c =
    let F = g.F.Field in
    let old = c.args.inverses.now in
    let path = c.args.path in
    let v = c.args.vector.now in
    let scaled = c.scale_row.new.self in
    let made = c.scale_row.ensures.value in
    let tall : length scaled.rows ≡ length old.rows = ap (λ m. length m.rows) made ∙ length-set old.rows path _ in
    let others = length old.rows - 1 in
    let more : others + 1 ≡ length old.rows = omega (arith, c.requires.path) in
    let row : (k : ℕ) → k ≢ path → row_of scaled k ≡ row_of old k = λ k apart. ap (λ m. row_of m k) made ∙ row_of-with_other old path k _ apart in
    all_steps others (others_changed F.number F.zero F.add F.mul path v old) (others_changed F.number F.zero F.add F.mul path v scaled) old.columns (length old.rows) scaled.columns
    c.args.steps.now c.dot-product.new.steps c.scale_row.new.steps _ c.clear_others.new.steps
    more (others_changed-same F.number F.zero F.add F.mul path v old scaled tall row) (ap (λ m. m.columns) made)
    (subst (λ w. RoseBy w c.args.steps.now c.dot-product.new.steps) c.requires.width c.dot-product.ensures.ticks) c.scale_row.ensures.ticks
    (c.clear_others.ensures.ticks others (more ∙ sym tall)) (omega arith)

pub returns-clause-few_ticks : goal.returns-clause-few_ticks
returns-clause-few_ticks g c =
    let F = g.F.Field in
    let old = c.args.inverses.now in
    let path = c.args.path in
    let v = c.args.vector.now in
    let wide = dot_of-wide F.zero F.add F.mul v (row_of old path) c.requires.nonzero in
    few_steps (others_changed F.number F.zero F.add F.mul path v old) old.columns (length old.rows) c.args.steps.now c.clear_others.new.steps
    (others_changed-few F.number F.zero F.add F.mul path v old c.requires.path) (omega (arith, wide, c.requires.width)) (returns-clause-ticks g c)
