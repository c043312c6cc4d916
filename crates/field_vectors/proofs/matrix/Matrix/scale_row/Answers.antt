use Rattle.std.proofs.Common.{◌≡◌, length, get_or, arith, ap, ◌∙◌, slice_range, List, []}
use Rattle.std.proofs.lemmas.List.{with_items_is}
use Rattle.std.specs.Vec.{with_items}
use Rattle.field_vectors.proofs.GridSteps.{row_below, columns_are, range-row, row-width, row-elements}
use Rattle.field_vectors.proofs.RowWriting.{IsWritten, row-within, written-entries, written-matrices, written-value}
use Rattle.field_vectors.specs.Cut.{cut, with_part}
use Rattle.field_vectors.specs.Elements.{multiple_of}
use Rattle.field_vectors.proofs.ElementsLaws.{length-multiple_of, multiple_of-elements}
use Rattle.field_vectors.proofs.matrix.Matrix.scale_row.Goals as goal
use Rattle.field_vectors.proofs.matrix.Matrix.scale_row.Goals.{After-scale_part}

pub scale_part-requires-clause-inside : goal.scale_part-requires-clause-inside
scale_part-requires-clause-inside g c =
    let m = c.self.inside in
    let ends = row-within g.F.Field.is_element m.row_count m.column_count c.args.i c.place_of-end.result m.entries.items c.args.self.now c.self.view_is c.requires c.place_of-end.ensures c.self.invariant in
    omega (arith, c.as_mut_slice.ensures.len, m.entries.ok.0, ends)

-- what the row was
row_at : (g : _) (c : After-scale_part g) → List g.row.F.Denot
row_at g c = get_or (cut c.self.inside.row_count c.self.inside.column_count c.self.inside.entries.items) c.args.i []

-- its multiple is written among the entries
made : (g : _) (c : After-scale_part g) → IsWritten g.F.Field.is_element c.self.inside.row_count c.self.inside.column_count c.args.i c.place_of-start.result c.self.inside.entries.items
    (multiple_of g.F.Field.mul c.args.by (row_at g c)) (with_items c.self.inside.entries c.scale_part.new.entries).items c.args.self.now
unfolding row_at
made g c =
    let m = c.self.inside in
    let P = g.F.Field.is_element in
    let below = row_below m.row_count m.column_count c.args.i m.entries.items c.args.self.now c.self.view_is c.requires in
    let same : length c.scale_part.new.entries ≡ m.entries.len = omega (arith, c.scale_part.auto.entries, c.as_mut_slice.ensures.len) in
    record {
      shown = c.self.view_is;
      below = below;
      from = c.place_of-start.ensures;
      are = c.self.invariant;
      long = length-multiple_of g.F.Field.mul c.args.by (row_at g c) ∙ row-width P m.row_count m.column_count c.args.i m.entries.items below c.self.invariant;
      elements = multiple_of-elements P g.F.Field.mul (λ x y p q. g.met.F.Field.mul_element x y p q) c.args.by (row_at g c) c.number-number.ensures.element (row-elements P m.row_count m.column_count c.args.i m.entries.items below c.self.invariant);
      written =
          with_items_is m.entries c.scale_part.new.entries same ∙ c.scale_part.ensures.value
          ∙ ap (λ xs. with_part xs c.place_of-start.result (multiple_of g.F.Field.mul c.args.by (slice_range xs c.place_of-start.result c.place_of-end.result))) c.as_mut_slice.ensures.value
          ∙ ap (λ row. with_part m.entries.items c.place_of-start.result (multiple_of g.F.Field.mul c.args.by row))
          (range-row m.row_count m.column_count c.args.i c.place_of-start.result c.place_of-end.result m.entries.items below c.place_of-start.ensures c.place_of-end.ensures);
    }

pub invariant_of-self : goal.invariant_of-self
invariant_of-self g c = written-entries (made g (goal.at.invariant_of-self g c).After-scale_part)

pub returns-clause-kept : goal.returns-clause-kept
returns-clause-kept g c = written-matrices (made g (goal.at.returns-clause-kept g c).After-scale_part)

pub returns-clause-value : goal.returns-clause-value
unfolding row_at
returns-clause-value g c = rw (← c.self.view_is) (written-value (made g (goal.at.returns-clause-value g c).After-scale_part))

pub returns-clause-ticks : goal.returns-clause-ticks
returns-clause-ticks g c =
    let m = c.self.inside in
    let wide = columns_are m.row_count m.column_count m.entries.items c.args.self.now c.self.view_is in
    c.scale_part.ensures.ticks c.args.self.now.columns (omega (arith, c.place_of-start.ensures, c.place_of-end.ensures))
