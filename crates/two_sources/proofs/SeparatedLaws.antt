-- Laws of separated codes. They are codes. They carry of the block of what the first links carried what the old ones carried, each
-- first link carries a row, and they are accepted where the old ones are.
use Rattle.std.specs.Prelude.{◌≡◌, ◌<◌, ◌≤◌, ◌+◌, ◌-◌, ◌*◌, ◌==◌, ℕ, zero, suc, true, false, nat_lt, Some, List, [], ◌∷◌, ◌++◌, drop, get_or, length, map, slice_get}
use Rattle.std.specs.List.{concat, list_all, range_with_len}
use Rattle.std.specs.Option.{option_map, option_map_or}
use Rattle.std.proofs.Common.{arith, refl, sym, ap, ◌∙◌, inl, inr}
use Rattle.std.proofs.Math.Path.{ap₂}
use Rattle.std.proofs.lemmas.Bool.{and_from, and_parts, cases_Bool, cases_lt, eq-eqb, eqb-true, false≢true, le-ltb, lt-ltb, ltb-true}
use Rattle.std.proofs.lemmas.List.{get_or-append_right, get_or-drop, get_or-map, get_or_append_left, nil_from_length}
use Rattle.std.proofs.lemmas.List.Elements.{All-map, All-weaker, recursion_from_All}
use Rattle.std.proofs.lemmas.List.FromFn.{get_or-map-range_with_len, length-map-range_with_len}
use Rattle.std.proofs.lemmas.List.Sums.{list_all-from_AllPass}
use Rattle.std.proofs.lemmas.Option.{slice_get-map, unwrap_or-slice_get}
use Rattle.item_list.proofs.Maps.{map-agree}
use Rattle.item_list.proofs.Tests.{passes_at}
use Rattle.gf_tables.proofs.KindField.{kind_field}
use Rattle.gf_tables.specs.Product.{size_of}
use Rattle.gf_tables.specs.declared.kind.FieldKind.{FieldKind}
use Rattle.linear_algebra.proofs.CombinationLaws.{combination-one}
use Rattle.linear_algebra.proofs.EntryLaws.{rows_of-AreRows}
use Rattle.linear_algebra.proofs.MatrixLaws.{length-rows_of, length-times_rows, times_rows-AreRows, times_rows-identity, times_rows-times_rows}
use Rattle.linear_algebra.proofs.RowLaws.{AreRows-elements, AreRows-widths}
use Rattle.linear_algebra.specs.Matrices.{identity, rows_of, times_rows}
use Rattle.linear_algebra.specs.Rows.{AreElements, AreRows, IsRow, combination, zero_row}
use Rattle.net_model.specs.Demands.{demand_count, pattern_of_demand, sinks_of_demands}
use Rattle.net_model.specs.Failed.{failed_links}
use Rattle.net_model.specs.Lists.{is_among}
use Rattle.net_model.specs.Network.{are_patterns, is_listed_pattern}
use Rattle.net_model.specs.Walks.{leaves_source}
use Rattle.net_model.specs.declared.Link.{Link}
use Rattle.net_model.specs.declared.Pattern.{Pattern}
use Rattle.net_model.specs.declared.net.Net.{Net}
use Rattle.node_program.proofs.BlockLaws.{AreRows-block, IsBlock-identity, IsBlock-rows, width_of-identity}
use Rattle.node_program.proofs.DecodingLaws.{IsAccepted-identity, decoder_of_demand}
use Rattle.node_program.proofs.OperandLaws.{operands_of_draft}
use Rattle.node_program.proofs.ValueLaws.{IsRow-row_at, value-equation}
use Rattle.node_program.proofs.VectorLaws.{IsRow-global_vector, value-vector}
use Rattle.node_program.specs.Code.{IsCode, IsDraft, are_decoders, are_operands, are_operands_of, is_decoder}
use Rattle.node_program.specs.CodeValue.{vector_in}
use Rattle.node_program.specs.Decoding.{IsAccepted, IsBlock, decoder_matrix, decoder_vectors}
use Rattle.node_program.specs.Operands.{IsOperand}
use Rattle.node_program.specs.Value.{global_vector, operands_at, row_at, value, value_from, width_of}
use Rattle.node_program.specs.declared.Decoder.{Decoder}
use Rattle.node_program.specs.declared.Operand.{Operand}
use Rattle.node_program.specs.declared.code.Code.{Code}
use Rattle.two_sources.proofs.InverseLaws.{concat-elements, left_inverse-right, length-concat, rows_of-concat}
use Rattle.two_sources.specs.Separated.{HasFirstLinks, IsSeparated, first_vectors, row_operands, separated_decoder, separated_operands}

-- no link fails in the first pattern
pub none_fail : (links : ℕ) (patterns : List Pattern) → are_patterns links patterns ≡ true → failed_links patterns 0 ≡ []
none_fail links [] are = refl
none_fail links (none ∷ listed) are =
    let named = (and_parts _ (list_all (is_listed_pattern links) listed) are).0 in
    nil_from_length none.links (eqb-true (length none.links) 0 (and_parts _ _ named).1)

-- some rows of a width are a block of that width
pub some_rows : (field : FieldKind) (rate width : ℕ) (rows : List (List ℕ)) → 1 ≤ rate → length rows ≡ rate → AreRows field width rows
    → IsBlock field rate rows × (width_of rows ≡ width)
some_rows field rate width [] some count are = absurd (omega arith)
some_rows field rate width (row ∷ rows) some count are =
    (IsBlock-rows field rate width (row ∷ rows) count are.0.width are, are.0.width)

-- a row below the rate is an operand that fits a link out of the source
row_fits : (net : Net) (rate : ℕ) (field : FieldKind) (link : Link) (row : ℕ) → (link.tail == net.source) ≡ true → row < rate
    → are_operands net rate field link (row_operands row) ≡ true
row_fits net rate field link row leaves below =
    rw (leaves, lt-ltb row rate below, lt-ltb 1 (size_of field) (kind_field field).one_element) refl

-- operands that fit links still do where the first links leave the source and have a row each
rows_fit : (net : Net) (rate : ℕ) (field : FieldKind) (row n : ℕ) (links : List Link) (table : List (List Operand)) → row + n ≤ rate
    → ((link : ℕ) → link < n → option_map_or (λ l. l.tail == net.source) (slice_get links link) false ≡ true)
    → are_operands_of net rate field links table ≡ true
    → are_operands_of net rate field links (map row_operands (range_with_len row n) ++ drop n table) ≡ true
rows_fit net rate field row zero links table within leave are = are
rows_fit net rate field row (suc n) [] table within leave are = absurd (false≢true (leave 0 (omega arith)))
rows_fit net rate field row (suc n) (link ∷ links) [] within leave are = absurd (false≢true are)
rows_fit net rate field row (suc n) (link ∷ links) (operands ∷ table) within leave are =
    and_from _ _ (row_fits net rate field link row (leave 0 (omega arith)) (omega arith))
    (rows_fit net rate field (row + 1) n links table (omega arith) (λ one below. leave (suc one) (omega arith)) (and_parts _ _ are).1)

module _ (net : Net) (rate : ℕ) (field : FieldKind) (change : Decoder → Decoder)
    (fits : (sink : ℕ) (decoder : Decoder) → is_decoder net rate field sink decoder ≡ true
    → is_decoder net rate field sink (change decoder) ≡ true) where
  -- decoders that fit sinks still do where each is changed into one that fits
  changed_fit : (sinks : List ℕ) (decoders : List Decoder) → are_decoders net rate field sinks decoders ≡ true
      → are_decoders net rate field sinks (map change decoders) ≡ true
  changed_fit [] [] are = refl
  changed_fit [] (decoder ∷ decoders) are = absurd (false≢true are)
  changed_fit (sink ∷ sinks) [] are = absurd (false≢true are)
  changed_fit (sink ∷ sinks) (decoder ∷ decoders) are =
      let parts = and_parts _ _ are in
      and_from _ _ (fits sink decoder parts.0) (changed_fit sinks decoders parts.1)

module _ (code : Code) (first : HasFirstLinks code.net code.rate) where
  -- a link below the rate leaves the source, and no other does
  first_leaves : (link : ℕ) → link < code.rate → leaves_source code.net link ≡ true
  first_leaves link below = first link ∙ lt-ltb link code.rate below

  other_stays : (link : ℕ) → code.rate ≤ link → leaves_source code.net link ≡ false
  other_stays link above = first link ∙ le-ltb link code.rate above

  abbrev vectors : List (List ℕ)
  vectors = first_vectors code

  -- the vectors of the first links are as many as the rate
  vector_count : length vectors ≡ code.rate
  vector_count = length-map-range_with_len (vector_in code 0) 0 code.rate

  -- and as wide
  vectors_are : AreRows code.field code.rate vectors
  vectors_are =
      let P : List ℕ → Type 0 = IsRow code.field code.rate in
      recursion_from_All P vectors (All-map P (vector_in code 0) (range_with_len 0 code.rate)
      (λ k d within. IsRow-global_vector code.code.draft (failed_links code.net.patterns 0) (get_or (range_with_len 0 code.rate) k d)))

  -- the new operands are those of a draft
  IsDraft-separated : IsDraft code.net code.rate code.field (separated_operands code)
  IsDraft-separated =
      let draft = code.code.draft in
      record {
        some_rate = draft.some_rate;
        low_rate = draft.low_rate;
        few_demands = draft.few_demands;
        link_order = draft.link_order;
        link_operands =
            rows_fit code.net code.rate code.field 0 code.rate code.net.links code.operands (omega arith) first_leaves draft.link_operands;
        named_field = draft.named_field;
        no_wanted = draft.no_wanted;
      }

  -- the rows of a decoder's matrix, and those of the new one
  abbrev old_rows : List ℕ → List (List ℕ)
  old_rows entries = rows_of code.rate code.rate entries

  abbrev new_rows : List ℕ → List (List ℕ)
  new_rows entries = times_rows code.field code.rate vectors (old_rows entries)

  new_count : (entries : List ℕ) → length (new_rows entries) ≡ code.rate
  new_count entries = length-times_rows code.field code.rate vectors (old_rows entries) ∙ vector_count

  new_are : (entries : List ℕ) → length entries ≡ code.rate * code.rate → AreElements code.field entries
      → AreRows code.field code.rate (new_rows entries)
  new_are entries count are =
      times_rows-AreRows code.field code.rate code.rate vectors (old_rows entries) vectors_are
      (rows_of-AreRows code.field code.rate code.rate entries (omega arith) are)

  -- a new decoder fits the old one's sink
  is_decoder-separated : (sink : ℕ) (decoder : Decoder) → is_decoder code.net code.rate code.field sink decoder ≡ true
      → is_decoder code.net code.rate code.field sink (separated_decoder code decoder) ≡ true
  is_decoder-separated sink decoder test =
      let all = and_parts _ _ test in
      let four = and_parts _ _ all.0 in
      let P : ℕ → Type 0 = λ entry. entry < size_of code.field in
      let few = λ (entry : ℕ). nat_lt entry (size_of code.field) in
      let are : AreElements code.field decoder.entries = λ k d within. ltb-true _ _ (passes_at few decoder.entries k d all.1 within) in
      let rows = new_rows decoder.entries in
      let rows_are = new_are decoder.entries (eqb-true _ _ four.1) are in
      let count : length (concat rows) ≡ code.rate * code.rate =
      length-concat code.rate rows (AreRows-widths code.field code.rate rows rows_are)
      ∙ ap (λ n. n * code.rate) (new_count decoder.entries) in
      let elements = concat-elements code.field rows (AreRows-elements code.field code.rate rows rows_are) in
      let passes = All-weaker P (λ entry. few entry ≡ true) (λ entry. lt-ltb entry (size_of code.field)) (concat rows) elements in
      and_from _ _ (and_from _ _ four.0 (eq-eqb _ _ count)) (list_all-from_AllPass few (concat rows) passes)

  -- the network with these operands and decoders is a code
  pub IsCode-separated : IsCode code.net code.rate code.field (separated_operands code) (map (separated_decoder code) code.decoders)
  IsCode-separated = record {
    draft = IsDraft-separated;
    demand_decoders =
        changed_fit code.net code.rate code.field (separated_decoder code) is_decoder-separated
        (sinks_of_demands code.net) code.decoders code.code.demand_decoders;
  }

  -- the operands of a first link
  first_operands : (link : ℕ) → link < code.rate → operands_at (separated_operands code) link ≡ row_operands link
  first_operands link below =
      let rows = map row_operands (range_with_len 0 code.rate) in
      let count : length rows ≡ code.rate = length-map-range_with_len row_operands 0 code.rate in
      unwrap_or-slice_get (separated_operands code) link []
      ∙ get_or_append_left rows (drop code.rate code.operands) [] link (omega arith)
      ∙ get_or-map-range_with_len row_operands 0 code.rate link link [] below (omega arith)

  -- and those of another
  other_operands : (link : ℕ) → code.rate ≤ link → operands_at (separated_operands code) link ≡ operands_at code.operands link
  other_operands link above =
      let rows = map row_operands (range_with_len 0 code.rate) in
      let count : length rows ≡ code.rate = length-map-range_with_len row_operands 0 code.rate in
      let place : code.rate + (link - code.rate) ≡ link = omega arith in
      unwrap_or-slice_get (separated_operands code) link []
      ∙ get_or-append_right rows (drop code.rate code.operands) code.rate link [] count above
      ∙ get_or-drop code.rate code.operands (link - code.rate) []
      ∙ ap (λ k. get_or code.operands k []) place
      ∙ sym (unwrap_or-slice_get code.operands link [])

  -- what a link carries in the old code and in the new one
  abbrev old_value : List ℕ → List (List ℕ) → ℕ → List ℕ
  old_value failed block link = value code.net code.field code.operands failed block link

  abbrev new_value : List ℕ → List (List ℕ) → ℕ → List ℕ
  new_value failed block link = value code.net code.field (separated_operands code) failed block link

  -- and by the links that it reads
  abbrev old_step : List ℕ → List (List ℕ) → ℕ → List ℕ
  old_step failed block link = value_from code.net code.field code.operands failed block (old_value failed block) link

  abbrev new_step : List ℕ → List (List ℕ) → ℕ → List ℕ
  new_step failed block link = value_from code.net code.field (separated_operands code) failed block (new_value failed block) link

  -- a first link that doesn't fail carries its row
  first_row : (failed : List ℕ) (block : List (List ℕ)) → IsBlock code.field code.rate block → (link : ℕ) → link < code.rate
      → is_among failed link ≡ false → new_value failed block link ≡ row_at block link
  first_row failed block is link below whole =
      let row = IsRow-row_at is link below in
      let made : new_step failed block link ≡ combination code.field (width_of block) (1 ∷ []) (row_at block link ∷ []) =
      rw (whole, first_operands link below, first_leaves link below) refl in
      value-equation IsDraft-separated failed block link ∙ made
      ∙ combination-one code.field (width_of block) (row_at block link) row.width row.elements

  -- whatever other links fail, a first link carries what it carried
  whole_value : (failed others : List ℕ) (block : List (List ℕ)) (link : ℕ) → link < code.rate → is_among failed link ≡ false
      → is_among others link ≡ false → old_value failed block link ≡ old_value others block link
  whole_value failed others block link below whole other_whole =
      let same : old_step failed block link ≡ old_step others block link = rw (whole, other_whole, first_leaves link below) refl in
      value-equation code.code.draft failed block link ∙ same ∙ sym (value-equation code.code.draft others block link)

  module _ (block : List (List ℕ)) (is : IsBlock code.field code.rate block) where
    -- what the first links carry where none fails
    abbrev carried : List (List ℕ)
    carried = times_rows code.field (width_of block) vectors block

    -- it is a block as wide
    carried_is : IsBlock code.field code.rate carried × (width_of carried ≡ width_of block)
    carried_is =
        some_rows code.field code.rate (width_of block) carried code.code.draft.some_rate
        (length-times_rows code.field (width_of block) vectors block ∙ vector_count)
        (times_rows-AreRows code.field (width_of block) code.rate vectors block vectors_are (AreRows-block is))

    row_carried : (link : ℕ) → link < code.rate → row_at carried link ≡ old_value (failed_links code.net.patterns 0) block link
    row_carried link below =
        let times = λ (vector : List ℕ). combination code.field (width_of block) vector block in
        let inside : link < length vectors = omega (arith, vector_count) in
        unwrap_or-slice_get carried link []
        ∙ get_or-map times vectors link [] [] inside
        ∙ ap times (get_or-map-range_with_len (vector_in code 0) 0 code.rate link link [] below (omega arith))
        ∙ sym (value-vector code.code.draft is (failed_links code.net.patterns 0) link)

    module _ (failed : List ℕ) where
      -- a link carries of it what it carried, where those of lower numbers do
      link_carries : (link : ℕ) → ((from : ℕ) → from < link → new_value failed carried from ≡ old_value failed block from)
          → new_value failed carried link ≡ old_value failed block link
      link_carries link before = elim (cases_Bool (is_among failed link)) [
        | inl fails ↦
            let old : old_step failed block link ≡ zero_row (width_of block) = rw fails refl in
            let new : new_step failed carried link ≡ zero_row (width_of carried) = rw fails refl in
            value-equation IsDraft-separated failed carried link ∙ new ∙ ap zero_row carried_is.1
            ∙ sym (value-equation code.code.draft failed block link ∙ old)
        | inr whole ↦ elim (cases_lt link code.rate) [
          | inl below ↦
              let none = none_fail (length code.net.links) code.net.patterns code.net.network.pattern_links in
              let no_failure : is_among (failed_links code.net.patterns 0) link ≡ false =
              ap (λ (links : List ℕ). is_among links link) none in
              first_row failed carried carried_is.0 link below whole ∙ row_carried link below
              ∙ whole_value (failed_links code.net.patterns 0) failed block link below no_failure whole
          | inr above ↦
              let inner = other_stays link above in
              let operands = operands_at code.operands link in
              let times : List ℕ = map (λ operand. operand.times) operands in
              let old : old_step failed block link
              ≡ combination code.field (width_of block) times (map (λ operand. old_value failed block operand.from) operands) =
              rw (whole, inner) refl in
              let new : new_step failed carried link
              ≡ combination code.field (width_of carried) times (map (λ operand. new_value failed carried operand.from) operands) =
              rw (whole, inner, other_operands link above) refl in
              let rows = map-agree (λ operand. new_value failed carried operand.from) (λ operand. old_value failed block operand.from)
              (IsOperand code.net code.rate code.field link) (λ operand one. before operand.from (one.earlier_link inner))
              operands (operands_of_draft code.code.draft link) in
              value-equation IsDraft-separated failed carried link ∙ new
              ∙ ap₂ (λ (width : ℕ) (rows : List (List ℕ)). combination code.field width times rows) carried_is.1 rows
              ∙ sym (value-equation code.code.draft failed block link ∙ old)
        ]
      ]

      links_carry : (bound link : ℕ) → link < bound → new_value failed carried link ≡ old_value failed block link
      links_carry zero link below = absurd (omega arith)
      links_carry (suc bound) link below = link_carries link (λ from before. links_carry bound from (omega arith))

  -- of the block of what the first links carried where none fails, each link carries what it carried
  carries : (failed : List ℕ) (block : List (List ℕ)) → IsBlock code.field code.rate block → (link : ℕ)
      → new_value failed (times_rows code.field (width_of block) vectors block) link ≡ old_value failed block link
  carries failed block is link = links_carry block is failed (suc link) link (omega arith)

  -- the vector of a link in the old code and in the new one
  abbrev old_vector : List ℕ → ℕ → List ℕ
  old_vector failed link = global_vector code.net code.field code.operands failed code.rate link

  abbrev new_vector : List ℕ → ℕ → List ℕ
  new_vector failed link = global_vector code.net code.field (separated_operands code) failed code.rate link

  -- the new vector times those of the first links is the old one
  vector_product : (failed : List ℕ) (link : ℕ) → combination code.field code.rate (new_vector failed link) vectors ≡ old_vector failed link
  vector_product failed link =
      let square = some_rows code.field code.rate code.rate vectors code.code.draft.some_rate vector_count vectors_are in
      let same : times_rows code.field (width_of (identity code.rate)) vectors (identity code.rate) ≡ vectors =
      ap (λ width. times_rows code.field width vectors (identity code.rate)) (width_of-identity code.rate)
      ∙ times_rows-identity code.field code.rate vectors vectors_are in
      ap (λ width. combination code.field width (new_vector failed link) vectors) (sym square.1)
      ∙ sym (value-vector IsDraft-separated square.0 failed link)
      ∙ ap (λ (block : List (List ℕ)). new_value failed block link) (sym same)
      ∙ carries failed (identity code.rate) (IsBlock-identity code.field code.rate) link

  vector_products : (failed links : List ℕ)
      → times_rows code.field code.rate (map (new_vector failed) links) vectors ≡ map (old_vector failed) links
  vector_products failed [] = refl
  vector_products failed (link ∷ links) = ap₂ ◌∷◌ (vector_product failed link) (vector_products failed links)

  new_vectors_are : (failed links : List ℕ) → AreRows code.field code.rate (map (new_vector failed) links)
  new_vectors_are failed [] = tt
  new_vectors_are failed (link ∷ links) = (IsRow-global_vector IsDraft-separated failed link, new_vectors_are failed links)

  -- where a matrix times old vectors is the identity, the new matrix times the new vectors is
  new_identity : (failed links entries : List ℕ) → length entries ≡ code.rate * code.rate → AreElements code.field entries
      → times_rows code.field code.rate (old_rows entries) (map (old_vector failed) links) ≡ identity code.rate
      → times_rows code.field code.rate (old_rows (concat (new_rows entries))) (map (new_vector failed) links) ≡ identity code.rate
  new_identity failed links entries count elements identical =
      let field = code.field in
      let rate = code.rate in
      let matrix = old_rows entries in
      let news = map (new_vector failed) links in
      let product = times_rows field rate matrix news in
      let matrix_are : AreRows field rate matrix = rows_of-AreRows field rate rate entries (omega arith) elements in
      let news_are = new_vectors_are failed links in
      let rows_are = new_are entries count elements in
      let inverse : times_rows field rate product vectors ≡ identity rate =
      sym (times_rows-times_rows field rate rate rate matrix news vectors matrix_are news_are vectors_are)
      ∙ ap (times_rows field rate matrix) (vector_products failed links) ∙ identical in
      ap (λ (rows : List (List ℕ)). times_rows field rate rows news)
      (rows_of-concat rate rate (new_rows entries) (new_count entries) (AreRows-widths field rate (new_rows entries) rows_are))
      ∙ sym (times_rows-times_rows field rate rate rate vectors matrix news vectors_are matrix_are news_are)
      ∙ left_inverse-right field rate product vectors
      (length-times_rows field rate matrix news ∙ length-rows_of rate rate entries) vector_count
      (times_rows-AreRows field rate rate matrix news matrix_are news_are) vectors_are inverse

  module _ (new : Code) (is : IsSeparated code new) where
    -- of the block of what the first links carried where none fails, each link carries what it carried, whichever links fail
    pub separated-carries : (failed : List ℕ) (block : List (List ℕ)) → IsBlock code.field code.rate block → (link : ℕ)
        → value new.net new.field new.operands failed (times_rows code.field (width_of block) (first_vectors code) block) link
        ≡ value code.net code.field code.operands failed block link
    separated-carries failed block block_is link = rw (is.net, is.field, is.operands) (carries failed block block_is link)

    -- a first link has its row for its operand
    pub separated-operands : (link : ℕ) → link < new.rate → operands_at new.operands link ≡ row_operands link
    separated-operands link below = rw is.operands (first_operands link (omega (arith, is.rate)))

    -- and carries it where it doesn't fail
    pub separated-row : (failed : List ℕ) (block : List (List ℕ)) → IsBlock new.field new.rate block → (link : ℕ) → link < new.rate
        → is_among failed link ≡ false → value new.net new.field new.operands failed block link ≡ row_at block link
    separated-row failed block block_is link below whole =
        let here : IsBlock code.field code.rate block = rw (is.field, is.rate) at block_is in
        rw (is.net, is.field, is.operands) (first_row failed block here link (omega (arith, is.rate)) whole)

    -- the product of a demand is the identity
    demand_identity : IsAccepted code → (demand : ℕ) → demand < demand_count new.net
        → times_rows new.field new.rate (decoder_matrix new demand) (decoder_vectors new demand) ≡ identity new.rate
    demand_identity accepted demand below =
        let within : demand < demand_count code.net = rw is.net at below in
        let found = decoder_of_demand code.code demand within in
        let failed = failed_links code.net.patterns (pattern_of_demand code.net demand) in
        let old : times_rows code.field code.rate (old_rows found.0.entries) (map (old_vector failed) found.0.links) ≡ identity code.rate =
        rw found.1 at ((IsAccepted-identity code).0 accepted demand within) in
        let at : slice_get (map (separated_decoder code) code.decoders) demand ≡ Some (separated_decoder code found.0) =
        slice_get-map (separated_decoder code) code.decoders demand ∙ ap (option_map (separated_decoder code)) found.1 in
        let failing = failed_links new.net.patterns (pattern_of_demand new.net demand) in
        let vector : ℕ → List ℕ = global_vector new.net new.field new.operands failing new.rate in
        let same : times_rows new.field new.rate
        (option_map_or (λ decoder. rows_of new.rate new.rate decoder.entries) (slice_get new.decoders demand) [])
        (option_map_or (λ decoder. map vector decoder.links) (slice_get new.decoders demand) []) ≡ identity new.rate =
        rw (is.net, is.rate, is.field, is.operands, is.decoders, at)
        (new_identity failed found.0.links found.0.entries found.2.entry_count found.2.elements old) in
        same

    -- the new code is accepted where the old one is
    pub separated-accepted : IsAccepted code → IsAccepted new
    separated-accepted accepted = (IsAccepted-identity new).1 (demand_identity accepted)
