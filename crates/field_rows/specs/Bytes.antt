-- Rows of elements as bytes.
use Rattle.std.specs.Prelude.{ℕ, List, map}
use Rattle.gf_tables.specs.declared.kind.FieldKind.{FieldKind}
use Rattle.linear_algebra.specs.Matrices.{rows_of}
-- the elements that bytes are: one byte each, its number, or two bytes each
pub use Rattle.linear_algebra.specs.Elements.{elements_of}
-- the numbers of two bytes each, the high one first
pub use Rattle.linear_algebra.specs.Elements.{pairs_of_bytes as pairs_of}
-- the bytes of elements
pub use Rattle.linear_algebra.specs.Elements.{bytes_of_row as bytes_of_elements}

-- the rows of elements that bytes are: so many rows, of so many bytes each
abbrev pub element_rows : FieldKind → ℕ → ℕ → List ℕ → List (List ℕ)
element_rows field count width bytes = map (elements_of field) (rows_of count width bytes)
