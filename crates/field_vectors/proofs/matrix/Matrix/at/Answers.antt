use Rattle.std.proofs.Common.{◌<◌, length, arith, ap, ◌∙◌, sym, subst, get_or}
use Rattle.std.proofs.lemmas.List.{get_or_read}
use Rattle.std.proofs.lemmas.List.Elements.{All-get_or}
use Rattle.item_list.proofs.Places.{place_within}
use Rattle.field_vectors.proofs.CutLaws.{get_or-cut_entry}
use Rattle.field_vectors.proofs.GridSteps.{shown-IsMatrix, row_below, columns_are}
use Rattle.field_vectors.specs.Grid.{entry_of}
use Rattle.field_vectors.proofs.matrix.Matrix.at.Goals as goal
use Rattle.field_vectors.proofs.matrix.Matrix.at.Goals.{After-place_of}

-- the row is one of the rows
below : (g : _) (c : After-place_of g) → c.args.i < c.self.inside.row_count
below g c = let m = c.self.inside in row_below m.row_count m.column_count c.args.i m.entries.items c.args.self.now c.self.view_is c.requires.row

-- the column is one of the columns
inside : (g : _) (c : After-place_of g) → c.args.j < c.self.inside.column_count
inside g c =
    let m = c.self.inside in
    let wide = columns_are m.row_count m.column_count m.entries.items c.args.self.now c.self.view_is in
    omega (arith, c.requires.column)

-- the entry stands within the entries
within : (g : _) (c : After-place_of g) → c.place_of.result < length c.self.inside.entries.items
within g c =
    let m = c.self.inside in
    let place = place_within c.args.i c.args.j m.row_count m.column_count (below g c) (inside g c) in
    omega (arith, c.place_of.ensures, c.self.invariant.all)

pub index-requires : goal.index-requires
index-requires g c = let h = within g c in omega (arith, c.self.inside.entries.ok.0)

pub returns-clause-element : goal.returns-clause-element
returns-clause-element g c =
    let P = g.F.Field.is_element in
    let xs = c.self.inside.entries.items in
    let x = c.index.result.now in
    subst P (sym c.index.ensures) (All-get_or P xs c.place_of.result x (within g (goal.at.returns-clause-element g c).After-place_of) c.self.invariant.elements)

pub returns-clause-value : goal.returns-clause-value
returns-clause-value g c =
    let s = (goal.at.returns-clause-value g c).After-place_of in
    let m = c.self.inside in
    let xs = c.self.inside.entries.items in
    let read = get_or_read xs c.place_of.result c.index.result.now (within g s) c.index.ensures g.F.Field.zero in
    read ∙ ap (λ p. get_or xs p g.F.Field.zero) c.place_of.ensures
    ∙ sym (get_or-cut_entry m.row_count m.column_count c.args.i c.args.j xs g.F.Field.zero (below g s) (inside g s))
    ∙ ap (λ v. entry_of g.F.Field.zero v c.args.i c.args.j) c.self.view_is

pub returns-clause-kept : goal.returns-clause-kept
returns-clause-kept g c =
    let m = c.self.inside in
    shown-IsMatrix g.F.Field.is_element m.row_count m.column_count m.entries.items c.args.self.now c.self.view_is c.self.invariant
