-- What the kept rows give of a block that they admit.
use Rattle.std.specs.Prelude.{◌≡◌, ◌≤◌, ◌<◌, ◌*◌, ◌/◌, ℕ, zero, suc, List, [], ◌∷◌, length, map, take, drop, get_or}
use Rattle.std.specs.List.{AllByRecursion}
use Rattle.std.proofs.Common.{arith, refl, sym, ap, ◌∙◌}
use Rattle.std.proofs.lemmas.List.{get_or-map, length-drop, length-map, length-take}
use Rattle.std.proofs.lemmas.List.Elements.{All-drop, All-take}
use Rattle.generation_frame.specs.Blocks.{piece_of_row}
use Rattle.gf_tables.specs.Product.{bytes_of_element, bytes_of_width, width_of}
use Rattle.gf_tables.specs.declared.kind.FieldKind.{FieldKind}
use Rattle.gf_tables.specs.declared.kind.Width.TheVariants.{One, Two}
use Rattle.linear_algebra.proofs.CombinationLaws.{combination-unit_row}
use Rattle.linear_algebra.proofs.ElementsLaws.{bytes_of_row-elements_of, elements_of-drop, elements_of-IsRow}
use Rattle.linear_algebra.specs.Elements.{AreBytes, bytes_of_row, elements_of}
use Rattle.linear_algebra.specs.Rows.{combination, unit_row, AreRows}
use Rattle.row_spans.specs.Spans.{IsSum}
use Rattle.field_rows.specs.Widths.{width_in}
use Rattle.vector_headers.proofs.AdmitLaws.{Admits-IsSum}
use Rattle.vector_headers.proofs.TakenLaws.{vector_place}
use Rattle.vector_headers.specs.Held.{coded, held_bytes, vector_bytes}
use Rattle.vector_headers.specs.Rows.{Admits, IsBlockRow, IsPieceOfBlock, payload_width, piece_of_block}

-- whole elements are a piece
piece_whole : (field : FieldKind) → 128 ≡ bytes_of_element field * payload_width field
piece_whole field = elim (width_of field) as (λ width. 128 ≡ bytes_of_width width * (128 / bytes_of_width width)) [ One ↦ refl | Two ↦ refl ]

-- the bytes of a piece of a row
piece_bytes : (row : List ℕ) (piece : ℕ) → AreBytes row → AreBytes (piece_of_row row piece)
piece_bytes row piece are = All-take (λ byte. byte < 256) 128 (drop (piece * 128) row) (All-drop (λ byte. byte < 256) (piece * 128) row are)

length-piece : (row : List ℕ) (piece : ℕ) → piece < 8 → length row ≡ 1024 → length (piece_of_row row piece) ≡ 128
length-piece row piece below long = omega (arith, length-take 128 (drop (piece * 128) row), length-drop (piece * 128) row)

-- the row of a block at a place
pub block_row : (block : List (List ℕ)) (k : ℕ) → k < length block → AllByRecursion IsBlockRow block → IsBlockRow (get_or block k [])
block_row [] k below rows = absurd (omega arith)
block_row (row ∷ block) zero below rows = rows.0
block_row (row ∷ block) (suc k) below rows = block_row block k (omega arith) rows.1

module _ (field : FieldKind) (piece : ℕ) (below : piece < 8) where
  -- what a block has of a piece
  pub piece_rows : (block : List (List ℕ)) → AllByRecursion IsBlockRow block → AreRows field (payload_width field) (piece_of_block field block piece)
  piece_rows [] rows = tt
  piece_rows (row ∷ block) rows = (
    elements_of-IsRow field (payload_width field) (piece_of_row row piece) (piece_bytes row piece rows.0.bytes) (length-piece row piece below rows.0.count ∙ piece_whole field),
    piece_rows block rows.1,
  )

  -- a sum whose vector is a unit vector has the piece of the block's row there
  pub piece_given : (rate : ℕ) → rate ≤ 32 → (rows : List (List ℕ)) → AreRows field (width_in field held_bytes) rows → (block : List (List ℕ)) → length block ≡ rate → AllByRecursion IsBlockRow block
      → AllByRecursion (Admits field (piece_of_block field block piece)) (map (coded field rate) rows)
      → (k : ℕ) → k < rate → (bytes : List ℕ) → AreBytes bytes → length bytes ≡ 192
      → take rate (elements_of field bytes) ≡ unit_row rate k → IsSum field (width_in field held_bytes) rows (elements_of field bytes)
      → drop 64 bytes ≡ piece_of_row (get_or block k []) piece
  piece_given rate low rows are block count block_rows admitted k within bytes bytes_are long unit sum =
      let width = payload_width field in
      let place = width_in field vector_bytes in
      let shown = piece_of_block field block piece in
      let shown_count : length shown ≡ rate = length-map block (λ row. elements_of field (piece_of_row row piece)) ∙ count in
      let shown_rows = piece_rows block block_rows in
      let is : IsPieceOfBlock field rate shown = record { count = shown_count; rows = shown_rows } in
      let here : k < length block = omega arith in
      let row = get_or block k [] in
      let own = block_row block k here block_rows in
      let given = piece_of_row row piece in
      let elements : elements_of field (drop 64 bytes) ≡ elements_of field given =
      ap (λ n. elements_of field (drop n bytes)) (vector_place field)
      ∙ elements_of-drop field place bytes
      ∙ sym (Admits-IsSum field rate low shown is rows are admitted (elements_of field bytes) sum)
      ∙ ap (λ (v : List ℕ). combination field width v shown) unit
      ∙ combination-unit_row field width rate k shown within shown_count shown_rows
      ∙ get_or-map (λ row. elements_of field (piece_of_row row piece)) block k [] [] here
      in
      let rest : length (drop 64 bytes) ≡ bytes_of_element field * width = omega (arith, length-drop 64 bytes, long) ∙ piece_whole field in
      sym (bytes_of_row-elements_of field width (drop 64 bytes) (All-drop (λ byte. byte < 256) 64 bytes bytes_are) rest)
      ∙ ap (bytes_of_row field) elements
      ∙ bytes_of_row-elements_of field width given (piece_bytes row piece own.bytes) (length-piece row piece below own.count ∙ piece_whole field)
