-- How the rows of a code's products are made, and compared with the identity.
use Rattle.std.specs.Prelude.{◌≡◌, ℕ, ◌+◌, ◌*◌, ◌<◌, ◌≤◌, Some, List, [], length, map, take, drop, slice_get, slice_index}
use Rattle.std.proofs.Common.{arith, refl, sym, ap, subst, ◌∙◌, get_or, inl, inr}
use Rattle.std.proofs.lemmas.Bool.{cases_lt}
use Rattle.std.proofs.lemmas.List.{ext_get_or, get_or-map, length-map}
use Rattle.std.proofs.lemmas.List.FromFn.{get_or-map-range_with_len}
use Rattle.std.proofs.lemmas.Option.{slice_get_within}
use Rattle.gf_tables.specs.declared.kind.FieldKind.{FieldKind}
use Rattle.linear_algebra.proofs.EntryLaws.{get_or-rows_of}
use Rattle.linear_algebra.proofs.MatrixLaws.{length-identity, length-rows_of, length-times_rows, times_rows-AreRows}
use Rattle.linear_algebra.proofs.RowLaws.{AreRows-get_or, slice_index-unit_row, unit_row-IsRow}
use Rattle.linear_algebra.specs.Elements.{elements_of}
use Rattle.linear_algebra.specs.Matrices.{identity, rows_of}
use Rattle.linear_algebra.specs.Rows.{combination, unit_row, AreRows, IsRow}
use Rattle.net_model.specs.Demands.{demand_count, pattern_of_demand, sink_of_demand}
use Rattle.node_program.proofs.DecodingLaws.{AreRows-decoder_matrix, AreRows-decoder_vectors, decoder_of_demand, link_within}
use Rattle.node_program.specs.CodeValue.{vector_in}
use Rattle.node_program.specs.Decoding.{IsDecoder, decoder_matrix, decoder_vectors}
use Rattle.node_program.specs.declared.Decoder.{Decoder}
use Rattle.node_program.specs.declared.code.Code.{Code}
use Rattle.link_rows.proofs.WideLaws.{slice_index-widened, wide_room}
use Rattle.link_rows.specs.Vectors.{wide_width, widened}
use Rattle.code_checker.specs.Checking.{demand_product, entry_at, DiffersAt, DiffersFirst}

-- a demand has a decoder
pub decoder_within : (code : Code) (demand : ℕ) → demand < demand_count code.net → demand < length code.decoders
decoder_within code demand within =
    let found = decoder_of_demand code.code demand within in
    slice_get_within code.decoders demand found.0 found.1

-- each link of a decoder is one of the network's
pub decoder_link_within : (code : Code) (demand place : ℕ) (decoder : Decoder) → IsDecoder code.net code.rate code.field (sink_of_demand code.net demand) decoder
    → place < code.rate → slice_index decoder.links place < length code.net.links
decoder_link_within code demand place decoder shape below =
    link_within code.net.links (sink_of_demand code.net demand) (slice_index decoder.links place) (shape.into_sink place 0 (omega (arith, below, shape.link_count)))

-- an entry of a wide unit row, below the rate, is that of a unit row
pub unit_entry : (field : FieldKind) (width i j : ℕ) (bytes : List ℕ) → width ≤ 32 → j < width → elements_of field bytes ≡ unit_row (wide_width field) i
    → slice_index (elements_of field bytes) j ≡ slice_index (unit_row width i) j
unit_entry field width i j bytes few inside is =
    ap (λ (row : List ℕ). slice_index row j) is
    ∙ slice_index-unit_row (wide_width field) i j (omega (arith, inside, few, wide_room field)) ∙ sym (slice_index-unit_row width i j inside)

module _ (code : Code) (demand : ℕ) (decoder : Decoder) (at : slice_get code.decoders demand ≡ Some decoder) where
  -- the vectors of a decoder's links
  vectors_are : decoder_vectors code demand ≡ map (vector_in code (pattern_of_demand code.net demand)) decoder.links
  vectors_are = rw at refl

  -- as many as links
  pub length-decoder_vectors : length (decoder_vectors code demand) ≡ length decoder.links
  length-decoder_vectors = ap (length {A = List ℕ}) vectors_are ∙ length-map decoder.links (vector_in code (pattern_of_demand code.net demand))

  -- each is that of its link
  pub decoder_vector_at : (place : ℕ) → place < length decoder.links
      → get_or (decoder_vectors code demand) place [] ≡ vector_in code (pattern_of_demand code.net demand) (slice_index decoder.links place)
  decoder_vector_at place below =
      ap (λ (rows : List (List ℕ)). get_or rows place []) vectors_are
      ∙ get_or-map (vector_in code (pattern_of_demand code.net demand)) decoder.links place 0 [] below

  -- the matrix of a decoder
  matrix_is : decoder_matrix code demand ≡ rows_of code.rate code.rate decoder.entries
  matrix_is = rw at refl

  -- a row of its entries is one of elements
  pub row_entries : demand < demand_count code.net → (row : ℕ) → row < code.rate → IsRow code.field code.rate (take code.rate (drop (row * code.rate) decoder.entries))
  row_entries known row below =
      let within : row < length (decoder_matrix code demand) =
      omega (arith, below, ap (length {A = List ℕ}) matrix_is, length-rows_of code.rate code.rate decoder.entries) in
      subst (IsRow code.field code.rate)
      (ap (λ (rows : List (List ℕ)). get_or rows row []) matrix_is ∙ get_or-rows_of code.rate code.rate row decoder.entries below)
      (AreRows-get_or code.field code.rate row (decoder_matrix code demand) within (AreRows-decoder_matrix code demand known))

  -- a row of the product is the sum that a row of the decoder's entries makes of them
  pub product_row : (row : ℕ) → row < code.rate
      → combination code.field code.rate (take code.rate (drop (row * code.rate) decoder.entries)) (decoder_vectors code demand) ≡ get_or (demand_product code demand) row []
  product_row row below =
      let vectors = decoder_vectors code demand in
      let made : List ℕ → List ℕ = λ coefficients. combination code.field code.rate coefficients vectors in
      let within : row < length (rows_of code.rate code.rate decoder.entries) = omega (arith, below, length-rows_of code.rate code.rate decoder.entries) in
      sym (ap (λ (rows : List (List ℕ)). get_or (map made rows) row []) matrix_is
      ∙ get_or-map made (rows_of code.rate code.rate decoder.entries) row [] [] within
      ∙ ap made (get_or-rows_of code.rate code.rate row decoder.entries below))

-- the rows before one are those of the identity
pub record IsIdentityBefore (code : Code) (demand row : ℕ) : Type 0 where
  pub same : (i j : ℕ) → i < row → j < code.rate → entry_at (demand_product code demand) i j ≡ entry_at (identity code.rate) i j

-- none is before the first
pub identity_none : (code : Code) (demand : ℕ) → IsIdentityBefore code demand 0
identity_none code demand = record { same = λ i j before inside. absurd (omega (arith, before)) }

module _ (code : Code) (demand : ℕ) (within : demand < demand_count code.net) where
  -- the product has rows of elements, as many as the rate
  rows : AreRows code.field code.rate (demand_product code demand)
  rows =
      times_rows-AreRows code.field code.rate code.rate (decoder_matrix code demand) (decoder_vectors code demand)
      (AreRows-decoder_matrix code demand within) (AreRows-decoder_vectors code demand within)

  height : length (demand_product code demand) ≡ code.rate
  height =
      let found = decoder_of_demand code.code demand within in
      let matrix : length (decoder_matrix code demand) ≡ code.rate = rw found.1 (length-rows_of code.rate code.rate found.0.entries) in
      length-times_rows code.field code.rate (decoder_matrix code demand) (decoder_vectors code demand) ∙ matrix

  width : (i : ℕ) → i < code.rate → length (get_or (demand_product code demand) i []) ≡ code.rate
  width i below = (AreRows-get_or code.field code.rate i (demand_product code demand) (omega (arith, below, height)) rows).width

  -- a row of the identity
  unit : (i : ℕ) → i < code.rate → get_or (identity code.rate) i [] ≡ unit_row code.rate i
  unit i below = get_or-map-range_with_len (unit_row code.rate) 0 code.rate i i [] below (omega arith)

  module _ (row : ℕ) (below : row < code.rate) (before : IsIdentityBefore code demand row) (bytes : List ℕ)
      (is : elements_of code.field bytes ≡ widened code.field (get_or (demand_product code demand) row [])) where
    -- an entry of this row, by its bytes
    shown : (j : ℕ) → j < code.rate → slice_index (elements_of code.field bytes) j ≡ entry_at (demand_product code demand) row j
    shown j inside =
        ap (λ (entries : List ℕ). slice_index entries j) is
        ∙ slice_index-widened code.field (get_or (demand_product code demand) row []) j (omega (arith, inside, width row below))

    -- the same of the identity
    unit_shown : (j : ℕ) → slice_index (unit_row code.rate row) j ≡ entry_at (identity code.rate) row j
    unit_shown j = ap (λ (entries : List ℕ). slice_index entries j) (sym (unit row below))

    -- this row is that of the identity too
    pub identity_more : ((j : ℕ) → j < code.rate → slice_index (elements_of code.field bytes) j ≡ slice_index (unit_row code.rate row) j) → IsIdentityBefore code demand (row + 1)
    identity_more same = record {
      same = λ i j first inside. elim (cases_lt i row) [
        | inl earlier ↦ before.same i j earlier inside
        | inr last ↦
            let this : row ≡ i = omega (arith, first, last) in
            let Same : ℕ → Type 0 = λ n. entry_at (demand_product code demand) n j ≡ entry_at (identity code.rate) n j in
            subst Same this (sym (shown j inside) ∙ same j inside ∙ unit_shown j)
      ];
    }

    -- this row is the first that differs
    pub identity_differs : (column found : ℕ) → DiffersAt code.rate row (elements_of code.field bytes) column found
        → DiffersFirst code.rate (demand_product code demand) row column found
    identity_differs column found at = record {
      in_row = below;
      in_column = at.in_column;
      value = at.value ∙ shown column at.in_column;
      differs = λ same. at.differs (same ∙ sym (unit_shown column));
      before = λ j first. sym (shown j (omega (arith, first, at.in_column))) ∙ at.before j first ∙ unit_shown j;
      rows_before = λ i j first inside. before.same i j first inside;
    }

  -- where all rows are those of the identity, the product is the identity
  pub identity_all : (row : ℕ) → code.rate ≤ row → IsIdentityBefore code demand row → demand_product code demand ≡ identity code.rate
  identity_all row all before =
      ext_get_or [] (demand_product code demand) (identity code.rate) (height ∙ sym (length-identity code.rate))
      (λ i inside.
      let below : i < code.rate = omega (arith, inside, height) in
      ext_get_or 0 (get_or (demand_product code demand) i []) (get_or (identity code.rate) i [])
      (width i below ∙ sym (ap (length {A = ℕ}) (unit i below) ∙ (unit_row-IsRow code.field code.rate i).width))
      (λ j within_row. before.same i j (omega (arith, below, all)) (omega (arith, within_row, width i below))))
