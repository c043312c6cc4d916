-- Rows of bytes for links: what the links of a network carry where links fail.
use Rattle.std.specs.Prelude.{◌≡◌, ℕ, ◌<◌, Bool, List, [], length, map, slice_index_or, if◌then◌else◌}
use Rattle.gf_tables.specs.declared.kind.FieldKind.{FieldKind}
use Rattle.linear_algebra.specs.Elements.{elements_of}
use Rattle.linear_algebra.specs.Rows.{combination, zero_row}
use Rattle.net_model.specs.Walks.{leaves_source}
use Rattle.net_model.specs.declared.net.Net.{Net}
pub use Rattle.node_program.specs.LiveTable.{IsFailTable}
use Rattle.node_program.specs.Value.{operands_at, value}
use Rattle.node_program.specs.declared.Operand.{Operand}

-- the rows of the first links are, as elements, the values of these links on a block where links fail
pub record AreLinkRows (net : Net) (field : FieldKind) (operands : List (List Operand)) (failed : List ℕ) (block : List (List ℕ)) (links : ℕ) (rows : List (List ℕ)) : Type 0 where
  pub count : length rows ≡ links
  pub value : (e : ℕ) → e < links → elements_of field (slice_index_or rows e []) ≡ value net field operands failed block e

-- the row that an operand of a link reads: one of the block where the link leaves the source, else that of another link
abbrev pub row_read : Net → List (List ℕ) → List (List ℕ) → ℕ → Operand → List ℕ
row_read net block rows link operand = slice_index_or (if leaves_source net link then block else rows) operand.from []

-- zeros for a link that fails, else the sum over its operands of the coefficient times the row that is read
abbrev pub row_sum : Net → FieldKind → List (List Operand) → ℕ → Bool → List (List ℕ) → List (List ℕ) → ℕ → List ℕ
row_sum net field operands width fails block rows link =
    if fails then zero_row width
    else combination field width
    (map (λ operand. operand.times) (operands_at operands link))
    (map (λ operand. elements_of field (row_read net block rows link operand)) (operands_at operands link))
