-- Global coding vectors as rows of 64 bytes, with zeros behind them.
use Rattle.std.specs.Prelude.{◌≡◌, ℕ, ◌<◌, ◌-◌, List, [], ◌++◌, length, slice_index_or}
use Rattle.gf_tables.specs.declared.kind.FieldKind.{FieldKind}
use Rattle.linear_algebra.specs.Elements.{elements_of}
use Rattle.linear_algebra.specs.Rows.{zero_row}
use Rattle.net_model.specs.declared.net.Net.{Net}
use Rattle.node_program.specs.Value.{global_vector}
use Rattle.node_program.specs.declared.Operand.{Operand}
use Rattle.field_rows.specs.Widths.{width_in}

-- how many elements 64 bytes are
abbrev pub wide_width : FieldKind → ℕ
wide_width field = width_in field 64

-- a row with zeros behind it, so many in all
abbrev pub widened : FieldKind → List ℕ → List ℕ
widened field row = row ++ zero_row (wide_width field - length row)

-- the rows of the first links are, as elements, their vectors where links fail
pub record AreVectorRows (net : Net) (field : FieldKind) (operands : List (List Operand)) (failed : List ℕ) (rate links : ℕ) (rows : List (List ℕ)) : Type 0 where
  pub count : length rows ≡ links
  pub vector : (e : ℕ) → e < links → elements_of field (slice_index_or rows e []) ≡ widened field (global_vector net field operands failed rate e)
