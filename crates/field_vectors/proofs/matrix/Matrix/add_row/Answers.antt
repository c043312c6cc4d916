use Rattle.std.proofs.Common.{◌≡◌, ℕ, length, get_or, arith, ap, ◌∙◌, sym, slice_range, List, []}
use Rattle.std.proofs.Math.Path.{ap₂}
use Rattle.std.proofs.lemmas.List.{with_items_is}
use Rattle.std.specs.Vec.{with_items}
use Rattle.field_vectors.proofs.GridSteps.{row_below, columns_are, range-row, rows_apart, row-width, row-elements}
use Rattle.field_vectors.proofs.RowWriting.{IsWritten, row-within, written-entries, written-matrices, written-value}
use Rattle.field_vectors.specs.Cut.{cut, with_part}
use Rattle.field_vectors.specs.Elements.{plus_multiple}
use Rattle.field_vectors.proofs.ElementsLaws.{length-plus_multiple, plus_multiple-elements}
use Rattle.field_vectors.proofs.matrix.Matrix.add_row.Goals as goal
use Rattle.field_vectors.proofs.matrix.Matrix.add_row.Goals.{After-add_part}

pub add_part-requires-clause-from_inside : goal.add_part-requires-clause-from_inside
add_part-requires-clause-from_inside g c =
    let m = c.self.inside in
    let ends = row-within g.F.Field.is_element m.row_count m.column_count c.args.j c.place_of-from_end.result m.entries.items c.args.self.now c.self.view_is c.requires.from c.place_of-from_end.ensures c.self.invariant in
    omega (arith, c.as_mut_slice.ensures.len, m.entries.ok.0, ends)

pub add_part-requires-clause-apart : goal.add_part-requires-clause-apart
add_part-requires-clause-apart g c =
    rows_apart c.self.inside.column_count c.args.i c.args.j c.place_of-start.result c.place_of-end.result c.place_of-from.result c.place_of-from_end.result c.requires.apart
    c.place_of-start.ensures c.place_of-end.ensures c.place_of-from.ensures c.place_of-from_end.ensures

pub add_part-requires-clause-into_inside : goal.add_part-requires-clause-into_inside
add_part-requires-clause-into_inside g c =
    let m = c.self.inside in
    let ends = row-within g.F.Field.is_element m.row_count m.column_count c.args.i c.place_of-end.result m.entries.items c.args.self.now c.self.view_is c.requires.into c.place_of-end.ensures c.self.invariant in
    omega (arith, c.as_mut_slice.ensures.len, m.entries.ok.0, ends)

-- what a row was
row_at : (g : _) (c : After-add_part g) → ℕ → List g.row.F.Denot
row_at g c n = get_or (cut c.self.inside.row_count c.self.inside.column_count c.self.inside.entries.items) n []

-- the row with the multiple of the other is written among the entries
made : (g : _) (c : After-add_part g) → IsWritten g.F.Field.is_element c.self.inside.row_count c.self.inside.column_count c.args.i c.place_of-start.result c.self.inside.entries.items
    (plus_multiple g.F.Field.add g.F.Field.mul (row_at g c c.args.i) c.args.by (row_at g c c.args.j)) (with_items c.self.inside.entries c.add_part.new.entries).items c.args.self.now
unfolding row_at
made g c =
    let m = c.self.inside in
    let P = g.F.Field.is_element in
    let below = row_below m.row_count m.column_count c.args.i m.entries.items c.args.self.now c.self.view_is c.requires.into in
    let other_below = row_below m.row_count m.column_count c.args.j m.entries.items c.args.self.now c.self.view_is c.requires.from in
    let wide = row-width P m.row_count m.column_count c.args.i m.entries.items below c.self.invariant in
    let other = row-width P m.row_count m.column_count c.args.j m.entries.items other_below c.self.invariant in
    let same : length c.add_part.new.entries ≡ m.entries.len = omega (arith, c.add_part.auto.entries, c.as_mut_slice.ensures.len) in
    record {
      shown = c.self.view_is;
      below = below;
      from = c.place_of-start.ensures;
      are = c.self.invariant;
      long = length-plus_multiple g.F.Field.add g.F.Field.mul (row_at g c c.args.i) c.args.by (row_at g c c.args.j) (wide ∙ sym other) ∙ wide;
      elements =
          plus_multiple-elements P g.F.Field.add g.F.Field.mul (λ x y p q. g.met.F.Field.add_element x y p q) (λ x y p q. g.met.F.Field.mul_element x y p q) (row_at g c c.args.i) c.args.by (row_at g c c.args.j)
          (row-elements P m.row_count m.column_count c.args.i m.entries.items below c.self.invariant) c.number-number.ensures.element (row-elements P m.row_count m.column_count c.args.j m.entries.items other_below c.self.invariant);
      written =
          with_items_is m.entries c.add_part.new.entries same ∙ c.add_part.ensures.value
          ∙ ap (λ xs. with_part xs c.place_of-start.result (plus_multiple g.F.Field.add g.F.Field.mul (slice_range xs c.place_of-start.result c.place_of-end.result) c.args.by (slice_range xs c.place_of-from.result c.place_of-from_end.result))) c.as_mut_slice.ensures.value
          ∙ ap₂ (λ row other. with_part m.entries.items c.place_of-start.result (plus_multiple g.F.Field.add g.F.Field.mul row c.args.by other))
          (range-row m.row_count m.column_count c.args.i c.place_of-start.result c.place_of-end.result m.entries.items below c.place_of-start.ensures c.place_of-end.ensures)
          (range-row m.row_count m.column_count c.args.j c.place_of-from.result c.place_of-from_end.result m.entries.items other_below c.place_of-from.ensures c.place_of-from_end.ensures);
    }

pub invariant_of-self : goal.invariant_of-self
invariant_of-self g c = written-entries (made g (goal.at.invariant_of-self g c).After-add_part)

pub returns-clause-kept : goal.returns-clause-kept
returns-clause-kept g c = written-matrices (made g (goal.at.returns-clause-kept g c).After-add_part)

pub returns-clause-value : goal.returns-clause-value
unfolding row_at
returns-clause-value g c = rw (← c.self.view_is) (written-value (made g (goal.at.returns-clause-value g c).After-add_part))

pub returns-clause-ticks : goal.returns-clause-ticks
returns-clause-ticks g c =
    let m = c.self.inside in
    let wide = columns_are m.row_count m.column_count m.entries.items c.args.self.now c.self.view_is in
    c.add_part.ensures.ticks c.args.self.now.columns (omega (arith, c.place_of-start.ensures, c.place_of-end.ensures))
