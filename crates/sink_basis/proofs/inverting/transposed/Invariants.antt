use Rattle.std.proofs.Common.{◌≡◌, ◌<◌, ℕ, length}
use Rattle.field_vectors.specs.Elements.{column_of}
use Rattle.field_vectors.specs.Grid.{IsMatrix, row_of}
use Rattle.sink_basis.proofs.inverting.transposed.Given as goal

-- the rows before are columns
abbrev pub invariant-loop-k : goal.invariant-loop-k
invariant-loop-k g l = record {
  columns : l.new.columns ≡ length l.matrix.rows;
  height : length l.new.rows ≡ l.matrix.columns;
  kept : IsMatrix g.F.Field.is_element l.new;
  row : (k : ℕ) → k < l.k → row_of l.new k ≡ column_of g.F.Field.zero k l.matrix.rows;
}
