use Rattle.field_vectors.proofs.EliminationLaws.{step-then}
use Rattle.field_vectors.proofs.inverse.reduce_column.Goals as goal

pub returns-in-Some-clause-step : goal.returns-in-Some-clause-step
returns-in-Some-clause-step g c =
    let L = g.met.F.Field.field in
    let m = c.args.work.now in
    step-then L m c.normalize_pivot.new.work c.clear_column.new.work (step-then L m c.lift_pivot.new.work c.normalize_pivot.new.work c.lift_pivot.ensures.step c.normalize_pivot.ensures.step) c.clear_column.ensures.step
