use Rattle.field_vectors.proofs.GridSteps.{shown-IsMatrix}
use Rattle.field_vectors.proofs.matrix.Matrix.columns.Goals as goal

pub returns-clause-kept : goal.returns-clause-kept
returns-clause-kept g c =
    let m = c.self.inside in
    shown-IsMatrix g.F.Field.is_element m.row_count m.column_count m.entries.items c.args.self.now c.self.view_is c.self.invariant
