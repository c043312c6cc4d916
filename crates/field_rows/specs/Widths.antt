-- How many elements rows of bytes have.
use Rattle.std.specs.Prelude.{ℕ, ◌/◌, List, map}
use Rattle.gf_tables.specs.Product.{bytes_of_element}
use Rattle.gf_tables.specs.declared.kind.FieldKind.{FieldKind}
use Rattle.linear_algebra.specs.Elements.{elements_of}

-- so many bytes are so many elements
abbrev pub width_in : FieldKind → ℕ → ℕ
width_in field bytes = bytes / bytes_of_element field

-- the elements of rows of bytes
abbrev pub rows_in : FieldKind → List (List ℕ) → List (List ℕ)
rows_in field rows = map (elements_of field) rows
