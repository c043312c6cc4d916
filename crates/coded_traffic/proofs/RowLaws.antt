-- Laws of rows of bytes that stand one after another.
use Rattle.std.specs.Prelude.{◌≡◌, ℕ, ◌+◌, ◌*◌, ◌/◌, ◌%◌, ◌<◌, ◌≤◌, List, length, drop, replicate}
use Rattle.std.proofs.Common.{arith, refl, ap, ◌∙◌}
use Rattle.std.proofs.lemmas.List.{length-take-le, length-drop}
use Rattle.std.proofs.lemmas.List.Elements.{All-take, All-drop}
use Rattle.gf_tables.specs.Product.{bytes_of_element, bytes_of_width, width_of}
use Rattle.gf_tables.specs.declared.kind.FieldKind.{FieldKind}
use Rattle.gf_tables.specs.declared.kind.Width.TheVariants.{One, Two}
use Rattle.field_rows.specs.Bytes.{bytes_of_elements, elements_of}
use Rattle.field_rows.proofs.BytesLaws.{bytes_of_elements-elements_of}
use Rattle.linear_algebra.specs.Elements.{AreBytes}
use Rattle.linear_algebra.proofs.ElementsLaws.{elements_of-IsRow, elements_of-zero_row}
use Rattle.linear_algebra.proofs.EntryLaws.{row_end}
use Rattle.linear_algebra.specs.Rows.{zero_row, IsRow}
use Rattle.generation_frame.specs.Blocks.{row_bytes}
use Rattle.coded_traffic.specs.CodeBlocks.{row_width, row_of, elements_at}

-- a row has so many elements
pub row_bytes-row_width : (field : FieldKind) → row_bytes ≡ bytes_of_element field * row_width field
row_bytes-row_width field =
    elim (width_of field) as (λ width. row_bytes ≡ bytes_of_width width * (row_bytes / bytes_of_width width)) [ One ↦ refl | Two ↦ refl ]

-- the bytes of a row are whole elements
pub whole_row : (field : FieldKind) → row_bytes % bytes_of_element field ≡ 0
whole_row field = elim (width_of field) as (λ width. row_bytes % bytes_of_width width ≡ 0) [ One ↦ refl | Two ↦ refl ]

-- a row of so many lies within them
pub row_lies_within : (rows : List ℕ) (count place : ℕ) → length rows ≡ count * row_bytes → place < count → place * row_bytes + row_bytes ≤ length rows
row_lies_within rows count place size below = let fits = row_end place count row_bytes below in omega (arith, fits, size)

-- a row that lies within the rows has its length
pub length-row_of : (rows : List ℕ) (place : ℕ) → place * row_bytes + row_bytes ≤ length rows → length (row_of rows place) ≡ row_bytes
length-row_of rows place within =
    length-take-le row_bytes (drop (place * row_bytes) rows) (omega (arith, length-drop (place * row_bytes) rows))

-- a row of bytes
pub row_of-bytes : (rows : List ℕ) (place : ℕ) → AreBytes rows → AreBytes (row_of rows place)
row_of-bytes rows place bytes =
    All-take (λ byte. byte < 256) row_bytes (drop (place * row_bytes) rows) (All-drop (λ byte. byte < 256) (place * row_bytes) rows bytes)

-- the elements of a row are a row of elements
pub elements_at-IsRow : (field : FieldKind) (rows : List ℕ) (place : ℕ) → AreBytes rows → place * row_bytes + row_bytes ≤ length rows
    → IsRow field (row_width field) (elements_at field rows place)
elements_at-IsRow field rows place bytes within =
    elements_of-IsRow field (row_width field) (row_of rows place) (row_of-bytes rows place bytes)
    (length-row_of rows place within ∙ row_bytes-row_width field)

-- and they give back its bytes
pub row_of-back : (field : FieldKind) (rows : List ℕ) (place : ℕ) → AreBytes rows → place * row_bytes + row_bytes ≤ length rows
    → bytes_of_elements field (elements_at field rows place) ≡ row_of rows place
row_of-back field rows place bytes within =
    bytes_of_elements-elements_of field (row_of rows place) (row_of-bytes rows place bytes)
    (ap (λ n. n % bytes_of_element field) (length-row_of rows place within) ∙ whole_row field)

-- the elements of a row of zeros
pub elements_of-zeros : (field : FieldKind) (n : ℕ) → n ≡ row_bytes → elements_of field (replicate n 0) ≡ zero_row (row_width field)
elements_of-zeros field n is =
    ap (λ (m : ℕ). elements_of field (zero_row m)) (is ∙ row_bytes-row_width field) ∙ elements_of-zero_row field (row_width field)
