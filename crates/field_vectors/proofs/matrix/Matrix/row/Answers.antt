use Rattle.std.proofs.Common.{◌≡◌, ◌<◌, length, arith, ap, ◌∙◌, slice_range}
use Rattle.field_vectors.proofs.GridSteps.{shown-IsMatrix, row_below, range-row, range-within, row-width, row-elements}
use Rattle.field_vectors.specs.Grid.{row_of}
use Rattle.field_vectors.proofs.matrix.Matrix.row.Goals as goal
use Rattle.field_vectors.proofs.matrix.Matrix.row.Goals.{After-part}

-- the row is one of the rows
below : (g : _) (c : After-part g) → c.args.i < c.self.inside.row_count
below g c = let m = c.self.inside in row_below m.row_count m.column_count c.args.i m.entries.items c.args.self.now c.self.view_is c.requires

pub part-requires-clause-inside : goal.part-requires-clause-inside
part-requires-clause-inside g c =
    let m = c.self.inside in
    let under = row_below m.row_count m.column_count c.args.i m.entries.items c.args.self.now c.self.view_is c.requires in
    let ends = range-within g.F.Field.is_element m.row_count m.column_count c.args.i c.place_of-end.result m.entries.items under c.place_of-end.ensures c.self.invariant in
    omega (arith, c.as_slice.ensures.len, m.entries.ok.0, ends)

-- what is given is the row, as the entries stand
row_given : (g : _) (c : After-part g) → c.part.result.now ≡ row_of (c.args.self.now) c.args.i
row_given g c =
    let m = c.self.inside in
    c.part.ensures ∙ ap (λ xs. slice_range xs c.place_of-start.result c.place_of-end.result) c.as_slice.ensures.value
    ∙ range-row m.row_count m.column_count c.args.i c.place_of-start.result c.place_of-end.result m.entries.items (below g c) c.place_of-start.ensures c.place_of-end.ensures
    ∙ ap (λ v. row_of v c.args.i) c.self.view_is

pub returns-clause-value : goal.returns-clause-value
returns-clause-value g c = row_given g (goal.at.returns-clause-value g c).After-part

pub returns-clause-width : goal.returns-clause-width
returns-clause-width g c =
    let s = (goal.at.returns-clause-width g c).After-part in
    let m = c.self.inside in
    ap length (row_given g s) ∙ rw (← c.self.view_is) (row-width g.F.Field.is_element m.row_count m.column_count c.args.i m.entries.items (below g s) c.self.invariant)

pub returns-clause-elements : goal.returns-clause-elements
returns-clause-elements g c =
    let s = (goal.at.returns-clause-elements g c).After-part in
    let m = c.self.inside in
    let P = g.F.Field.is_element in
    let h = row-elements P m.row_count m.column_count c.args.i m.entries.items (below g s) c.self.invariant in
    rw (row_given g s, ← c.self.view_is) h

pub returns-clause-kept : goal.returns-clause-kept
returns-clause-kept g c =
    let m = c.self.inside in
    shown-IsMatrix g.F.Field.is_element m.row_count m.column_count m.entries.items c.args.self.now c.self.view_is c.self.invariant
