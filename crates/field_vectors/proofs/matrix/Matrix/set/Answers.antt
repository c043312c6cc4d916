use Rattle.std.proofs.Common.{◌<◌, arith, refl}
use Rattle.item_list.proofs.Places.{place_within}
use Rattle.field_vectors.proofs.CutLaws.{entries-IsMatrix}
use Rattle.field_vectors.proofs.GridSteps.{shown-IsMatrix, row_below, columns_are, grid_in-set, set-entries}
use Rattle.field_vectors.proofs.matrix.Matrix.set.Goals as goal
use Rattle.field_vectors.proofs.matrix.Matrix.set.Goals.{After-place_of-place}

-- the row is one of the rows
below : (g : _) (c : After-place_of-place g) → c.args.i < c.self.inside.row_count
below g c = let m = c.self.inside in row_below m.row_count m.column_count c.args.i m.entries.items c.args.self.now c.self.view_is c.requires.row

-- the column is one of the columns
inside : (g : _) (c : After-place_of-place g) → c.args.j < c.self.inside.column_count
inside g c =
    let m = c.self.inside in
    let wide = columns_are m.row_count m.column_count m.entries.items c.args.self.now c.self.view_is in
    omega (arith, c.requires.column)

pub index_mut-requires : goal.index_mut-requires
index_mut-requires g c =
    let s = (goal.at.index_mut-requires g c).After-place_of-place in
    let m = c.self.inside in
    let place = place_within c.args.i c.args.j m.row_count m.column_count (below g s) (inside g s) in
    omega (arith, c.place_of-place.ensures, c.self.invariant.all, m.entries.ok.0)

pub returns-clause-value : goal.returns-clause-value
returns-clause-value g c =
    let s = (goal.at.returns-clause-value g c).After-place_of-place in
    let m = c.self.inside in
    rw (← c.self.view_is) (grid_in-set m.row_count m.column_count c.args.i c.args.j c.place_of-place.result m.entries.items _ c.args.value (below g s) (inside g s) c.place_of-place.ensures refl)

pub returns-clause-kept : goal.returns-clause-kept
returns-clause-kept g c =
    let P = g.F.Field.is_element in
    let m = c.self.inside in
    let entries = set-entries P m.row_count m.column_count c.place_of-place.result m.entries.items c.args.value c.self.invariant c.number-number.ensures.element in
    let before = shown-IsMatrix P m.row_count m.column_count m.entries.items c.args.self.now c.self.view_is c.self.invariant in
    (before, entries-IsMatrix P m.row_count m.column_count _ entries)
