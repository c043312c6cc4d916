-- Laws of rows with zeros behind them up to 64 bytes, and of what links carry of such unit rows.
use Rattle.std.specs.Prelude.{◌≡◌, ℕ, zero, suc, ◌<◌, ◌≤◌, ◌+◌, ◌-◌, ◌==◌, List, [], ◌∷◌, ◌++◌, length, map, take, slice_index, slice_index_or, if◌then◌else◌}
use Rattle.std.specs.List.{range_with_len}
use Rattle.std.proofs.Common.{arith, refl, sym, ap, ◌∙◌, inl, inr}
use Rattle.std.proofs.lemmas.Bool.{cases_lt, ne_eqb}
use Rattle.std.proofs.lemmas.List.{ext_get_or, get_or-append_right, get_or-map, get_or-take, get_or_append_left, length-append, length-map, length-replicate, length-take-le, replicate-append-replicate}
use Rattle.std.proofs.lemmas.List.FromFn.{get_or-map-range_with_len, length-map-range_with_len}
use Rattle.std.proofs.lemmas.Simd.{map-map}
use Rattle.gf_tables.specs.declared.kind.FieldKind.{FieldKind}
use Rattle.item_list.proofs.Maps.{same_made}
use Rattle.linear_algebra.proofs.CombinationLaws.{length-combination}
use Rattle.linear_algebra.proofs.MatrixLaws.{combination-identity, identity-AreRows}
use Rattle.linear_algebra.proofs.RowLaws.{AreElements-head, AreElements-tail, add_rows-append, length-add_rows, length-scale_row, scale_row-append, scale_row-zero_row, slice_index-unit_row, slice_index-zero_row, unit_row-IsRow, zero_row-zero_row}
use Rattle.linear_algebra.specs.Elements.{elements_of}
use Rattle.linear_algebra.specs.Rows.{add_rows, combination, scale_row, unit_row, zero_row, AreElements, AreRows}
use Rattle.net_model.specs.declared.net.Net.{Net}
use Rattle.node_program.proofs.BlockLaws.{IsBlock-rows}
use Rattle.node_program.proofs.VectorLaws.{IsRow-global_vector, value-vector}
use Rattle.node_program.specs.Code.{IsDraft}
use Rattle.node_program.specs.Decoding.{IsBlock}
use Rattle.node_program.specs.Value.{global_vector, unit_block, value, width_of}
use Rattle.node_program.specs.declared.Operand.{Operand}
use Rattle.field_rows.proofs.ElementLaws.{room_in}
use Rattle.link_rows.specs.LinkRows.{AreLinkRows}
use Rattle.link_rows.specs.Vectors.{wide_width, widened, AreVectorRows}
use Rattle.field_rows.specs.Widths.{rows_in}

-- there is room for the highest rate
pub wide_room : (field : FieldKind) → 32 ≤ wide_width field
wide_room field = room_in field 64 32 (omega arith) (omega arith)

-- a row with zeros behind it, by its length
pub widened-width : (field : FieldKind) (width : ℕ) (row : List ℕ) → length row ≡ width → widened field row ≡ row ++ zero_row (wide_width field - width)
widened-width field width row wide = ap (λ (n : ℕ). row ++ zero_row (wide_width field - n)) wide

-- is so wide
pub length-widened : (field : FieldKind) (row : List ℕ) → length row ≤ wide_width field → length (widened field row) ≡ wide_width field
length-widened field row room =
    let rest = wide_width field - length row in
    length-append row (zero_row rest) ∙ omega (arith, length-replicate {A = ℕ} rest 0, room)

-- and begins with the row
pub slice_index-widened : (field : FieldKind) (row : List ℕ) (j : ℕ) → j < length row → slice_index (widened field row) j ≡ slice_index row j
slice_index-widened field row j inside = get_or_append_left row (zero_row (wide_width field - length row)) 0 j inside

-- zeros behind zeros
pub widened-zero_row : (field : FieldKind) (width : ℕ) → width ≤ wide_width field → widened field (zero_row width) ≡ zero_row (wide_width field)
widened-zero_row field width room =
    let whole : width + (wide_width field - width) ≡ wide_width field = omega (arith, room) in
    widened-width field width (zero_row width) (length-replicate {A = ℕ} width 0)
    ∙ replicate-append-replicate width (wide_width field - width) 0 ∙ ap zero_row whole

-- zeros behind a unit row
pub widened-unit_row : (field : FieldKind) (width i : ℕ) → i < width → width ≤ wide_width field → widened field (unit_row width i) ≡ unit_row (wide_width field) i
widened-unit_row field width i below room =
    let row = unit_row width i in
    let wide : length row ≡ width = (unit_row-IsRow field width i).width in
    let long : length (widened field row) ≡ wide_width field = length-widened field row (omega (arith, wide, room)) in
    ext_get_or 0 (widened field row) (unit_row (wide_width field) i) (long ∙ sym (unit_row-IsRow field (wide_width field) i).width)
    (λ j inside.
    let within : j < wide_width field = omega (arith, inside, long) in
    sym (slice_index-unit_row (wide_width field) i j within ∙ sym (elim (cases_lt j width) [
      | inl first ↦ slice_index-widened field row j (omega (arith, first, wide)) ∙ slice_index-unit_row width i j first
      | inr behind ↦
          let apart : (i == j) ≡ _ = ne_eqb i j (λ e. omega (arith, e, below, behind)) in
          get_or-append_right row (zero_row (wide_width field - length row)) width j 0 wide behind
          ∙ slice_index-zero_row (wide_width field - length row) (j - width) ∙ sym (ap (λ b. if b then 1 else 0) apart)
    ])))

-- a combination of rows with zeros behind them is that of the rows, with zeros behind it
pub combination-widened : (field : FieldKind) (width : ℕ) (coefficients : List ℕ) (rows : List (List ℕ)) → width ≤ wide_width field → AreElements field coefficients → AreRows field width rows
    → combination field (wide_width field) coefficients (map (widened field) rows) ≡ widened field (combination field width coefficients rows)
combination-widened field width [] rows room below are = sym (widened-zero_row field width room)
combination-widened field width (times ∷ coefficients) [] room below are = sym (widened-zero_row field width room)
combination-widened field width (times ∷ coefficients) (row ∷ rows) room below are =
    let zeros = zero_row (wide_width field - width) in
    let others = combination field width coefficients rows in
    let scaled = scale_row field times row in
    let first = AreElements-head field times coefficients below in
    let wide : length scaled ≡ width = length-scale_row field times row ∙ are.0.width in
    let wide_others : length others ≡ width = length-combination field width coefficients rows are.1 in
    let long : length (add_rows scaled others) ≡ width = length-add_rows scaled others (wide ∙ sym wide_others) ∙ wide_others in
    ap (add_rows (scale_row field times (widened field row))) (combination-widened field width coefficients rows room (AreElements-tail field times coefficients below) are.1)
    ∙ rw (
      widened-width field width row are.0.width,
      widened-width field width others wide_others,
      widened-width field width (add_rows scaled others) long,
      scale_row-append field times row zeros,
      scale_row-zero_row field times (wide_width field - width) first,
      add_rows-append scaled zeros others zeros (wide ∙ sym wide_others),
      zero_row-zero_row (wide_width field - width),
    ) refl

-- the first unit rows of 64 bytes
abbrev pub wide_block : FieldKind → ℕ → List (List ℕ)
wide_block field rate = map (unit_row (wide_width field)) (range_with_len 0 rate)

-- they are rows of elements
unit_rows-AreRows : (field : FieldKind) (width : ℕ) (places : List ℕ) → AreRows field width (map (unit_row width) places)
unit_rows-AreRows field width [] = tt
unit_rows-AreRows field width (place ∷ places) = (unit_row-IsRow field width place, unit_rows-AreRows field width places)

-- so wide, where there is one
width_of-wide_block : (field : FieldKind) (rate : ℕ) → 1 ≤ rate → width_of (wide_block field rate) ≡ wide_width field
width_of-wide_block field zero some = absurd (omega arith)
width_of-wide_block field (suc rate) some = (unit_row-IsRow field (wide_width field) 0).width

-- and those of the identity with zeros behind them
wide_block-widened : (field : FieldKind) (rate : ℕ) → rate ≤ wide_width field → map (widened field) (unit_block rate) ≡ wide_block field rate
wide_block-widened field rate room =
    map-map (widened field) (unit_row rate) (range_with_len 0 rate)
    ∙ same_made (λ i. widened field (unit_row rate i)) (unit_row (wide_width field)) rate [] (λ i below. widened-unit_row field rate i below room)

module _ {net : Net} {rate : ℕ} {field : FieldKind} {operands : List (List Operand)} (draft : IsDraft net rate field operands) where
  room : rate ≤ wide_width field
  room = omega (arith, wide_room field, draft.low_rate)

  -- of these rows a link carries its vector, with zeros behind it
  pub value-wide_block : (failed : List ℕ) (link : ℕ)
      → value net field operands failed (wide_block field rate) link ≡ widened field (global_vector net field operands failed rate link)
  value-wide_block failed link =
      let vector = global_vector net field operands failed rate link in
      let row = IsRow-global_vector draft failed link in
      let wide : width_of (wide_block field rate) ≡ wide_width field = width_of-wide_block field rate draft.some_rate in
      let block : IsBlock field rate (wide_block field rate) =
      IsBlock-rows field rate (wide_width field) (wide_block field rate) (length-map-range_with_len (unit_row (wide_width field)) 0 rate) wide
      (unit_rows-AreRows field (wide_width field) (range_with_len 0 rate)) in
      value-vector draft block failed link
      ∙ ap (λ (n : ℕ). combination field n vector (wide_block field rate)) wide
      ∙ ap (combination field (wide_width field) vector) (sym (wide_block-widened field rate room))
      ∙ combination-widened field rate vector (unit_block rate) room row.elements (identity-AreRows field rate)
      ∙ ap (widened field) (combination-identity field rate vector row)

  -- the first of 32 unit rows as bytes are these rows
  pub rows_in-units : (bytes : List (List ℕ)) → length bytes ≡ 32
      → ((place : ℕ) → place < 32 → elements_of field (slice_index_or bytes place []) ≡ unit_row (wide_width field) place)
      → rows_in field (take rate bytes) ≡ wide_block field rate
  rows_in-units bytes many are =
      let few : rate ≤ length bytes = omega (arith, many, draft.low_rate) in
      let count : length (take rate bytes) ≡ rate = length-take-le rate bytes few in
      let long : length (rows_in field (take rate bytes)) ≡ rate = length-map (take rate bytes) (elements_of field) ∙ count in
      ext_get_or [] (rows_in field (take rate bytes)) (wide_block field rate) (long ∙ sym (length-map-range_with_len (unit_row (wide_width field)) 0 rate))
      (λ i inside.
      let below : i < rate = omega (arith, inside, long) in
      get_or-map (elements_of field) (take rate bytes) i [] [] (omega (arith, below, count))
      ∙ ap (elements_of field) (get_or-take rate bytes i [] below)
      ∙ are i (omega (arith, below, few, many))
      ∙ sym (get_or-map-range_with_len (unit_row (wide_width field)) 0 rate i i [] below (omega arith)))

  -- so what links carry of them are vectors
  pub AreVectorRows-units : (bytes : List (List ℕ)) → rows_in field bytes ≡ wide_block field rate
      → (failed : List ℕ) (links : ℕ) (rows : List (List ℕ)) → AreLinkRows net field operands failed (rows_in field bytes) links rows
      → AreVectorRows net field operands failed rate links rows
  AreVectorRows-units bytes same failed links rows are = record {
    count = are.count;
    vector = λ e below.
        are.value e below ∙ ap (λ (block : List (List ℕ)). value net field operands failed block e) same ∙ value-wide_block failed e;
  }
