use Rattle.std.proofs.Common.{◌≡◌, length, arith, ap, ◌∙◌}
use Rattle.std.proofs.lemmas.List.{with_items_is}
use Rattle.std.specs.Vec.{with_items}
use Rattle.field_vectors.proofs.GridSteps.{columns_are, row_below}
use Rattle.field_vectors.proofs.RowWriting.{IsWritten, row-within, written-entries, written-matrices, written-value}
use Rattle.field_vectors.specs.Cut.{with_part}
use Rattle.field_vectors.proofs.matrix.Matrix.put_row.Goals as goal
use Rattle.field_vectors.proofs.matrix.Matrix.put_row.Goals.{After-copy_to_part}

pub copy_to_part-requires-clause-inside : goal.copy_to_part-requires-clause-inside
copy_to_part-requires-clause-inside g c =
    let m = c.self.inside in
    let ends = row-within g.F.Field.is_element m.row_count m.column_count c.args.i c.place_of-end.result m.entries.items c.args.self.now c.self.view_is c.requires.row c.place_of-end.ensures c.self.invariant in
    omega (arith, c.as_mut_slice.ensures.len, m.entries.ok.0, ends)

-- the row is written among the entries
made : (g : _) (c : After-copy_to_part g) → IsWritten g.F.Field.is_element c.self.inside.row_count c.self.inside.column_count c.args.i c.place_of-start.result c.self.inside.entries.items c.args.from.now
    (with_items c.self.inside.entries c.copy_to_part.new.entries).items c.args.self.now
made g c =
    let m = c.self.inside in
    let wide = columns_are m.row_count m.column_count m.entries.items c.args.self.now c.self.view_is in
    let same : length c.copy_to_part.new.entries ≡ m.entries.len = omega (arith, c.copy_to_part.auto.entries, c.as_mut_slice.ensures.len) in
    record {
      shown = c.self.view_is;
      below = row_below m.row_count m.column_count c.args.i m.entries.items c.args.self.now c.self.view_is c.requires.row;
      from = c.place_of-start.ensures;
      are = c.self.invariant;
      long = omega (arith, c.requires.width);
      elements = c.copy_to_part.ensures.elements;
      written = with_items_is m.entries c.copy_to_part.new.entries same ∙ c.copy_to_part.ensures.value ∙ ap (λ xs. with_part xs c.place_of-start.result c.args.from.now) c.as_mut_slice.ensures.value;
    }

pub invariant_of-self : goal.invariant_of-self
invariant_of-self g c = written-entries (made g (goal.at.invariant_of-self g c).After-copy_to_part)

pub returns-clause-kept : goal.returns-clause-kept
returns-clause-kept g c = written-matrices (made g (goal.at.returns-clause-kept g c).After-copy_to_part)

pub returns-clause-value : goal.returns-clause-value
returns-clause-value g c = rw (← c.self.view_is) (written-value (made g (goal.at.returns-clause-value g c).After-copy_to_part))
