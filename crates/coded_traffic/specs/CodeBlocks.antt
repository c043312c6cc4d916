-- Blocks of a code as rows of elements, and rows of bytes that stand one after another.
use Rattle.std.specs.Prelude.{ℕ, ◌≡◌, ◌*◌, ◌/◌, List, length, take, drop}
use Rattle.field_rows.specs.Bytes.{element_rows, elements_of}
use Rattle.gf_tables.specs.Product.{bytes_of_element}
use Rattle.gf_tables.specs.declared.kind.FieldKind.{FieldKind}
use Rattle.linear_algebra.specs.Elements.{AreBytes}
use Rattle.generation_frame.specs.Blocks.{row_bytes}
use Rattle.node_program.specs.declared.code.Code.{Code}

-- how many elements a row has
abbrev pub row_width : FieldKind → ℕ
row_width field = row_bytes / bytes_of_element field

-- the row at a place, of rows one after another
abbrev pub row_of : List ℕ → ℕ → List ℕ
row_of rows place = take row_bytes (drop (place * row_bytes) rows)

-- its elements
abbrev pub elements_at : FieldKind → List ℕ → ℕ → List ℕ
elements_at field rows place = elements_of field (row_of rows place)

-- bytes that are a block of a code
pub record IsBlockOf (code : Code) (block : List ℕ) : Type 0 where
  pub size : length block ≡ code.rate * row_bytes
  pub bytes : AreBytes block

-- the rows of elements that a block of a code is
abbrev pub block_elements : Code → List ℕ → List (List ℕ)
block_elements code block = element_rows code.field code.rate row_bytes block
