-- How the rows of a decoder's matrix are made rows of 64 bytes, and what links out of the source carry of them.
use Rattle.std.specs.Prelude.{◌≡◌, ℕ, suc, ◌+◌, ◌-◌, ◌*◌, ◌<◌, ◌≤◌, Bool, true, false, List, [], ◌∷◌, ◌++◌, length, map, set, take, drop, slice_get, if◌then◌else◌}
use Rattle.std.specs.List.{concat}
use Rattle.std.proofs.Common.{arith, refl, sym, ap, ◌∙◌, get_or, add-one, below_more}
use Rattle.std.proofs.Math.Seq.{set-append_seam, take-suc}
use Rattle.std.proofs.lemmas.Bool.{and_parts, false≢true, lt-ltb}
use Rattle.std.proofs.lemmas.List.{append_assoc, append-nil, get_or-map, get_or-set_other, get_or-set_same, length-take-le, take_all, take_at, take_more}
use Rattle.std.proofs.lemmas.List.Folds.{concat-append}
use Rattle.std.proofs.lemmas.List.FromFn.{get_or-map-range_with_len, length-map-range_with_len}
use Rattle.std.proofs.lemmas.Option.{slice_get_read, unwrap_or-slice_get}
use Rattle.std.proofs.lemmas.Simd.{map-map}
use Rattle.item_list.proofs.Maps.{map-agree}
use Rattle.failure_patterns.proofs.DemandLaws.{length-sinks_of_demands}
use Rattle.gf_tables.specs.declared.kind.FieldKind.{FieldKind}
use Rattle.linear_algebra.proofs.CombinationLaws.{take-combination}
use Rattle.linear_algebra.proofs.EntryLaws.{get_or-rows_of, rows_of-AreRows}
use Rattle.linear_algebra.proofs.MatrixLaws.{length-rows_of, length-times_rows}
use Rattle.linear_algebra.proofs.RowLaws.{AreRows-get_or}
use Rattle.linear_algebra.specs.Elements.{elements_of}
use Rattle.linear_algebra.specs.Matrices.{rows_of, times_rows}
use Rattle.linear_algebra.specs.Rows.{combination, zero_row, AreElements, AreRows}
use Rattle.net_model.proofs.EndLaws.{tail_of-leaves_source}
use Rattle.net_model.specs.Demands.{sink_of_demand, sinks_of_demands}
use Rattle.net_model.specs.Failed.{failed_links}
use Rattle.net_model.specs.Lists.{is_among}
use Rattle.net_model.specs.Walks.{leaves_source}
use Rattle.net_model.specs.declared.net.Net.{Net}
use Rattle.node_program.proofs.DecodingLaws.{decoder_shape}
use Rattle.node_program.proofs.OperandLaws.{operands_of_draft}
use Rattle.node_program.proofs.ValueLaws.{value-equation}
use Rattle.node_program.proofs.VectorLaws.{value-vector}
use Rattle.node_program.specs.Code.{are_decoders}
use Rattle.node_program.specs.CodeValue.{value_in, vector_in}
use Rattle.node_program.specs.Decoding.{IsBlock, IsDecoder}
use Rattle.node_program.specs.Operands.{IsOperand}
use Rattle.node_program.specs.Value.{operands_at, row_at, width_of}
use Rattle.node_program.specs.declared.Decoder.{Decoder}
use Rattle.node_program.specs.declared.Operand.{Operand}
use Rattle.node_program.specs.declared.code.Code.{Code}
use Rattle.link_rows.proofs.WideLaws.{wide_room}
use Rattle.link_rows.specs.LinkRows.{row_read, row_sum}
use Rattle.link_rows.specs.Vectors.{wide_width, widened}
use Rattle.two_sources.proofs.SeparatedLaws.{none_fail, some_rows}
use Rattle.two_sources.specs.Separated.{HasFirstLinks, first_vectors}

-- zeros with one more element of a row put in its place
pub widened-more : (field : FieldKind) (row : List ℕ) (k : ℕ) → length row ≤ wide_width field → k < length row
    → set (widened field (take k row)) k (get_or row k 0) ≡ widened field (take (k + 1) row)
widened-more field row k room inside =
    let wide = wide_width field in
    let here : length (take k row) ≡ k = length-take-le k row (omega arith) in
    let next : length (take (suc k) row) ≡ suc k = length-take-le (suc k) row (omega arith) in
    let one_less : wide - length (take k row) ≡ suc (wide - length (take (suc k) row)) = omega arith in
    let zeros = zero_row (wide - length (take (suc k) row)) in
    ap (λ (n : ℕ). set (take k row ++ zero_row n) k (get_or row k 0)) one_less
    ∙ ap (λ (n : ℕ). set (take k row ++ 0 ∷ zeros) n (get_or row k 0)) (sym here)
    ∙ set-append_seam (take k row) 0 zeros (get_or row k 0)
    ∙ sym (append_assoc (take k row) (get_or row k 0 ∷ []) zeros)
    ∙ ap (λ (some : List ℕ). some ++ zeros) (sym (take-suc row k 0 inside))
    ∙ ap (λ (n : ℕ). widened field (take n row)) (sym (add-one k))

-- all elements in their places
pub widened-all : (field : FieldKind) (row : List ℕ) (k : ℕ) → length row ≤ k → widened field (take k row) ≡ widened field row
widened-all field row k all = ap (widened field) (take_all k row all)

-- the rows so far, and one more in its place
pub rows-more : (field : FieldKind) (rows matrix : List (List ℕ)) (k : ℕ) (row : List ℕ) → k < length rows
    → ((i : ℕ) → i < k → elements_of field (get_or rows i []) ≡ widened field (get_or matrix i []))
    → elements_of field row ≡ widened field (get_or matrix k [])
    → (i : ℕ) → i < k + 1 → elements_of field (get_or (set rows k row) i []) ≡ widened field (get_or matrix i [])
rows-more field rows matrix k row within before is =
    let Is : ℕ → Type 0 = λ i. elements_of field (get_or (set rows k row) i []) ≡ widened field (get_or matrix i []) in
    below_more Is k
    (λ i earlier. ap (elements_of field) (get_or-set_other rows k i row [] (λ same. omega (arith, same, earlier))) ∙ before i earlier)
    (ap (elements_of field) (get_or-set_same rows k row [] within) ∙ is)

-- a row of the entries of a square matrix
pub row-of_entries : (size k : ℕ) (entries : List ℕ) → k < size
    → take (k * size + size - k * size) (drop (k * size) entries) ≡ get_or (rows_of size size entries) k []
row-of_entries size k entries below =
    let width : k * size + size - k * size ≡ size = omega arith in
    ap (λ (n : ℕ). take n (drop (k * size) entries)) width ∙ sym (get_or-rows_of size size k entries below)

-- the joined first rows, and one more
pub concat-more : (rows : List (List ℕ)) (k : ℕ) → k < length rows → concat (take k rows) ++ get_or rows k [] ≡ concat (take (k + 1) rows)
concat-more rows k inside =
    let row = get_or rows k [] in
    sym (ap concat (take_more rows k [] inside) ∙ concat-append (take k rows) (row ∷ [])
    ∙ ap (λ (last : List ℕ). concat (take k rows) ++ last) (append-nil row))

-- what an operand of a link reads of a block, where no link fails
abbrev pub read_of : Code → List (List ℕ) → ℕ → Operand → List ℕ
read_of code block link operand = if leaves_source code.net link then row_at block operand.from else value_in code 0 block operand.from

module _ (code : Code) (entries : List ℕ) (many : length entries ≡ code.rate * code.rate) (elements : AreElements code.field entries) where
  -- the entries are a matrix of elements
  are_rows : AreRows code.field code.rate (rows_of code.rate code.rate entries)
  are_rows = rows_of-AreRows code.field code.rate code.rate entries (omega (arith, many)) elements

  -- and so a block, as wide as the rate
  block_is : IsBlock code.field code.rate (rows_of code.rate code.rate entries) × (width_of (rows_of code.rate code.rate entries) ≡ code.rate)
  block_is =
      some_rows code.field code.rate code.rate (rows_of code.rate code.rate entries) code.code.draft.some_rate
      (length-rows_of code.rate code.rate entries) are_rows

  -- a link that leaves the source carries its vector times it, where no link fails
  carried-vector : (link : ℕ)
      → combination code.field code.rate (map (λ operand. operand.times) (operands_at code.operands link))
      (map (read_of code (rows_of code.rate code.rate entries) link) (operands_at code.operands link))
      ≡ combination code.field code.rate (vector_in code 0 link) (rows_of code.rate code.rate entries)
  carried-vector link =
      let field = code.field in
      let matrix = rows_of code.rate code.rate entries in
      let failed = failed_links code.net.patterns 0 in
      let times = map (λ operand. operand.times) (operands_at code.operands link) in
      let others = map (read_of code matrix link) (operands_at code.operands link) in
      let empty = none_fail (length code.net.links) code.net.patterns code.net.network.pattern_links in
      let none : is_among failed link ≡ false = ap (λ (links : List ℕ). is_among links link) empty in
      sym (ap (λ (n : ℕ). combination field n times others) block_is.1)
      ∙ sym (ap (λ (fails : Bool). if fails then zero_row (width_of matrix) else combination field (width_of matrix) times others) none)
      ∙ sym (value-equation code.code.draft failed matrix link)
      ∙ value-vector code.code.draft block_is.0 failed link
      ∙ ap (λ (n : ℕ). combination field n (vector_in code 0 link) matrix) block_is.1

  -- so does the sum of its operands' rows, with zeros behind them
  pub take-row_sum : (rows : List (List ℕ))
      → ((i : ℕ) → i < code.rate
      → elements_of code.field (get_or rows i []) ≡ widened code.field (get_or (rows_of code.rate code.rate entries) i []))
      → (link : ℕ) → leaves_source code.net link ≡ true
      → take code.rate (row_sum code.net code.field code.operands (wide_width code.field) false rows [] link)
      ≡ combination code.field code.rate (vector_in code 0 link) (rows_of code.rate code.rate entries)
  take-row_sum rows stand link leaves =
      let field = code.field in
      let rate = code.rate in
      let matrix = rows_of rate rate entries in
      let operands = operands_at code.operands link in
      let times = map (λ operand. operand.times) operands in
      let read : Operand → List ℕ = λ operand. elements_of field (row_read code.net rows [] link operand) in
      let room : rate ≤ wide_width field = omega (arith, wide_room field, code.code.draft.low_rate) in
      let each : (operand : Operand) → IsOperand code.net rate field link operand → take rate (read operand) ≡ read_of code matrix link operand =
      λ operand is.
      let below = is.source_row leaves in
      let row = get_or matrix operand.from [] in
      let inside : operand.from < length matrix = omega (arith, below, length-rows_of rate rate entries) in
      let long : length row ≡ rate = (AreRows-get_or field rate operand.from matrix inside are_rows).width in
      ap (λ (b : Bool). take rate (elements_of field (get_or (if b then rows else []) operand.from []))) leaves
      ∙ ap (take rate) (stand operand.from below)
      ∙ take_at row (zero_row (wide_width field - length row)) rate long
      ∙ sym (unwrap_or-slice_get matrix operand.from [])
      ∙ sym (ap (λ (b : Bool). if b then row_at matrix operand.from else value_in code 0 matrix operand.from) leaves) in
      take-combination field (wide_width field) rate times (map read operands) room
      ∙ ap (combination field rate times)
      (map-map (take rate) read operands
      ∙ map-agree (λ operand. take rate (read operand)) (read_of code matrix link) (IsOperand code.net rate field link) each
      operands (operands_of_draft code.code.draft link))
      ∙ carried-vector link

  -- which is a row of the product
  pub product-at : (link : ℕ) → link < code.rate
      → get_or (times_rows code.field code.rate (first_vectors code) (rows_of code.rate code.rate entries)) link []
      ≡ combination code.field code.rate (vector_in code 0 link) (rows_of code.rate code.rate entries)
  product-at link below =
      let made : List ℕ → List ℕ = λ vector. combination code.field code.rate vector (rows_of code.rate code.rate entries) in
      get_or-map made (first_vectors code) link [] [] (omega (arith, below, length-map-range_with_len (vector_in code 0) 0 code.rate))
      ∙ ap made (get_or-map-range_with_len (vector_in code 0) 0 code.rate link link [] below (omega arith))

-- the product has as many rows as the rate
pub length-product : (code : Code) (matrix : List (List ℕ))
    → length (times_rows code.field code.rate (first_vectors code) matrix) ≡ code.rate
length-product code matrix =
    length-times_rows code.field code.rate (first_vectors code) matrix ∙ length-map-range_with_len (vector_in code 0) 0 code.rate

-- as many decoders as sinks
decoders_count : (net : Net) (rate : ℕ) (field : FieldKind) (sinks : List ℕ) (decoders : List Decoder)
    → are_decoders net rate field sinks decoders ≡ true → length decoders ≡ length sinks
decoders_count net rate field [] [] are = refl
decoders_count net rate field [] (decoder ∷ decoders) are = absurd (false≢true are)
decoders_count net rate field (sink ∷ sinks) [] are = absurd (false≢true are)
decoders_count net rate field (sink ∷ sinks) (decoder ∷ decoders) are =
    ap suc (decoders_count net rate field sinks decoders (and_parts _ _ are).1)

-- each of a code's decoders is one of a sink
pub IsDecoder-at : (code : Code) (decoders : List Decoder) → decoders ≡ code.decoders → (place : ℕ) (decoder : Decoder)
    → place < length decoders → decoder ≡ get_or decoders place decoder
    → IsDecoder code.net code.rate code.field (sink_of_demand code.net place) decoder
IsDecoder-at code decoders same place decoder within is =
    let count = decoders_count code.net code.rate code.field (sinks_of_demands code.net) code.decoders code.code.demand_decoders in
    decoder_shape code place decoder (omega (arith, within, ap (length {A = Decoder}) same, count, length-sinks_of_demands code.net))
    (ap (λ (all : List Decoder). slice_get all place) (sym same) ∙ slice_get_read decoders (length decoders) place decoder refl within is)

-- a network whose first links leave the source has as many links at least
pub length-HasFirstLinks : (net : Net) (rate : ℕ) → 1 ≤ rate → HasFirstLinks net rate → rate ≤ length net.links
length-HasFirstLinks net rate some first =
    let last : rate - 1 < rate = omega arith in
    omega (arith, some, (tail_of-leaves_source net (rate - 1) (first (rate - 1) ∙ lt-ltb (rate - 1) rate last)).0)
