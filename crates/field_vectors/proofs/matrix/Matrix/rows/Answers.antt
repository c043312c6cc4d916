use Rattle.std.proofs.Common.{sym}
use Rattle.field_vectors.proofs.CutLaws.{length-cut}
use Rattle.field_vectors.proofs.GridSteps.{shown-IsMatrix}
use Rattle.field_vectors.proofs.matrix.Matrix.rows.Goals as goal

pub returns-clause-value : goal.returns-clause-value
returns-clause-value g c =
    let m = c.self.inside in
    rw (← c.self.view_is) (sym (length-cut m.row_count m.column_count m.entries.items))

pub returns-clause-kept : goal.returns-clause-kept
returns-clause-kept g c =
    let m = c.self.inside in
    shown-IsMatrix g.F.Field.is_element m.row_count m.column_count m.entries.items c.args.self.now c.self.view_is c.self.invariant
