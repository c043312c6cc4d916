use Rattle.field_vectors.proofs.CutLaws.{entries-IsMatrix}
use Rattle.field_vectors.proofs.GridSteps.{grid_in-zeros, zeros-entries}
use Rattle.field_vectors.proofs.matrix.Matrix.zeros.Goals as goal

pub returns-clause-value : goal.returns-clause-value
returns-clause-value g c = grid_in-zeros c.args.rows c.args.columns c.in_ok-entries.entries.items c.place_of.result g.F.Field.zero c.in_ok-entries.ensures c.place_of.ensures

pub returns-clause-kept : goal.returns-clause-kept
returns-clause-kept g c =
    let P = g.F.Field.is_element in
    let entries = zeros-entries P c.args.rows c.args.columns c.in_ok-entries.entries.items c.place_of.result g.F.Field.zero g.met.F.Field.zero_element c.in_ok-entries.ensures c.place_of.ensures in
    entries-IsMatrix P c.args.rows c.args.columns c.in_ok-entries.entries.items entries
