-- What is held for links, as rows of elements.
use Rattle.std.specs.Prelude.{ℕ, Bool, false, List, length, map, slice_index_or, if◌then◌else◌}
use Rattle.std.specs.List.{range_with_len}
use Rattle.gf_tables.specs.declared.kind.FieldKind.{FieldKind}
use Rattle.linear_algebra.specs.Elements.{elements_of}
use Rattle.linear_algebra.specs.Rows.{zero_row}
use Rattle.held_rows.specs.Held.{Held, row_of}
use Rattle.coded_traffic.specs.CodeBlocks.{row_width}

-- the row of elements that counts for a link, by its place: the one held where it is live, and else zeros
abbrev pub value_held : FieldKind → List Bool → Held → ℕ → List ℕ
value_held field live held place =
    if slice_index_or live place false then elements_of field (row_of held place) else zero_row (row_width field)

-- those of all links, in order
abbrev pub values_held : FieldKind → List Bool → Held → List (List ℕ)
values_held field live held = map (value_held field live held) (range_with_len 0 (length live))
