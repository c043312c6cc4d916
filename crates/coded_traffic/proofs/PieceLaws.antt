-- Pieces of rows, as bytes and as elements, and sums of them.
use Rattle.std.specs.Prelude.{◌≡◌, ◌<◌, ◌≤◌, ◌*◌, ◌/◌, ◌-◌, ℕ, List, [], ◌∷◌, length, map, take, drop}
use Rattle.std.proofs.Common.{refl, sym, ap, subst, ◌∙◌, arith}
use Rattle.std.proofs.lemmas.List.{drop-replicate, length-drop, length-take-le, take-replicate}
use Rattle.std.proofs.lemmas.List.Elements.{All-drop, All-take}
use Rattle.gf_tables.specs.Product.{bytes_of_element, bytes_of_width, size_of, width_of}
use Rattle.gf_tables.specs.declared.kind.FieldKind.{FieldKind}
use Rattle.gf_tables.specs.declared.kind.Width.TheVariants.{One, Two}
use Rattle.linear_algebra.specs.Elements.{elements_of, bytes_of_row}
use Rattle.linear_algebra.specs.Rows.{combination, zero_row, AreRows}
use Rattle.linear_algebra.proofs.CombinationLaws.{take-combination, drop-combination}
use Rattle.linear_algebra.proofs.ElementsLaws.{bytes_of_row-drop, bytes_of_row-take, elements_of-bytes_of_row, elements_of-drop, elements_of-take}
use Rattle.coded_traffic.specs.CodeBlocks.{row_width}
use Rattle.generation_frame.specs.Blocks.{piece_bytes, piece_of_row, row_bytes}
use Rattle.coded_traffic.specs.Traffic.{piece_width}

-- the bytes of a piece are those of its elements
pub piece_bytes-piece_width : (field : FieldKind) → bytes_of_element field * piece_width field ≡ piece_bytes
piece_bytes-piece_width field =
    elim (width_of field) as (λ width. bytes_of_width width * (piece_bytes / bytes_of_width width) ≡ piece_bytes) [ One ↦ refl | Two ↦ refl ]

-- a piece of a row of elements
abbrev pub elements_in : FieldKind → ℕ → List ℕ → List ℕ
elements_in field piece row = take (piece_width field) (drop (piece * piece_width field) row)

-- where a piece begins, in bytes and in elements
begin : (field : FieldKind) (piece : ℕ) → bytes_of_element field * (piece * piece_width field) ≡ piece * piece_bytes
begin field piece =
    elim (width_of field) as (λ width. bytes_of_width width * (piece * (piece_bytes / bytes_of_width width)) ≡ piece * piece_bytes) [
      | One ↦ omega arith
      | Two ↦ omega arith
    ]

-- a piece of the bytes of a row
pub piece_of_row-bytes : (field : FieldKind) (piece : ℕ) (row : List ℕ) → piece_of_row (bytes_of_row field row) piece ≡ bytes_of_row field (elements_in field piece row)
piece_of_row-bytes field piece row =
    ap (λ (from : ℕ). take piece_bytes (drop from (bytes_of_row field row))) (sym (begin field piece))
    ∙ ap (take piece_bytes) (sym (bytes_of_row-drop field (piece * piece_width field) row))
    ∙ ap (λ (n : ℕ). take n (bytes_of_row field (drop (piece * piece_width field) row))) (sym (piece_bytes-piece_width field))
    ∙ sym (bytes_of_row-take field (piece_width field) (drop (piece * piece_width field) row))

-- the elements of a piece of bytes
pub elements_of-piece : (field : FieldKind) (piece : ℕ) (bytes : List ℕ) → elements_of field (piece_of_row bytes piece) ≡ elements_in field piece (elements_of field bytes)
elements_of-piece field piece bytes =
    ap (λ (n : ℕ). elements_of field (take n (drop (piece * piece_bytes) bytes))) (sym (piece_bytes-piece_width field))
    ∙ elements_of-take field (piece_width field) (drop (piece * piece_bytes) bytes)
    ∙ ap (λ (from : ℕ). take (piece_width field) (elements_of field (drop from bytes))) (sym (begin field piece))
    ∙ ap (take (piece_width field)) (elements_of-drop field (piece * piece_width field) bytes)

-- the elements of a piece of the bytes of a row
pub elements_of-piece_of_row : (field : FieldKind) (piece : ℕ) (row : List ℕ) → elements_of field (piece_of_row (bytes_of_row field row) piece) ≡ elements_in field piece row
elements_of-piece_of_row field piece row =
    elements_of-piece field piece (bytes_of_row field row) ∙ ap (elements_in field piece) (elements_of-bytes_of_row field row)

-- a piece lies within a row
within_row : (field : FieldKind) (piece : ℕ) → piece < 8 → piece_width field ≤ row_width field - piece * piece_width field
within_row field piece low =
    elim (width_of field) as (λ width. piece_bytes / bytes_of_width width ≤ row_bytes / bytes_of_width width - piece * (piece_bytes / bytes_of_width width)) [
      | One ↦ omega (arith, low)
      | Two ↦ omega (arith, low)
    ]

-- a piece of a sum of rows is the sum of their pieces
pub elements_in-combination : (field : FieldKind) (piece : ℕ) (coefficients : List ℕ) (rows : List (List ℕ)) → piece < 8 → AreRows field (row_width field) rows
    → elements_in field piece (combination field (row_width field) coefficients rows) ≡ combination field (piece_width field) coefficients (map (take (piece_width field)) (map (drop (piece * piece_width field)) rows))
elements_in-combination field piece coefficients rows low are =
    ap (take (piece_width field)) (drop-combination field (row_width field) (piece * piece_width field) coefficients rows are)
    ∙ take-combination field (row_width field - piece * piece_width field) (piece_width field) coefficients (map (drop (piece * piece_width field)) rows) (within_row field piece low)

-- pieces of rows are rows
pub AreRows-piece : (field : FieldKind) (piece : ℕ) (rows : List (List ℕ)) → piece < 8 → AreRows field (row_width field) rows
    → AreRows field (piece_width field) (map (take (piece_width field)) (map (drop (piece * piece_width field)) rows))
AreRows-piece field piece [] low are = tt
AreRows-piece field piece (row ∷ rows) low are =
    let begin = piece * piece_width field in
    let left : piece_width field ≤ length (drop begin row) =
    subst (λ n. piece_width field ≤ n) (sym (length-drop begin row ∙ ap (λ n. n - begin) are.0.width)) (within_row field piece low) in (
      record {
        width = length-take-le (piece_width field) (drop begin row) left;
        elements = All-take (λ element. element < size_of field) (piece_width field) (drop begin row) (All-drop (λ element. element < size_of field) begin row are.0.elements);
      },
      AreRows-piece field piece rows low are.1,
    )

-- a piece of a row of zeros
pub elements_in-zero_row : (field : FieldKind) (piece : ℕ) → piece < 8 → elements_in field piece (zero_row (row_width field)) ≡ zero_row (piece_width field)
elements_in-zero_row field piece low =
    ap (take (piece_width field)) (drop-replicate (piece * piece_width field) (row_width field) 0)
    ∙ take-replicate (piece_width field) (row_width field - piece * piece_width field) 0 (within_row field piece low)
