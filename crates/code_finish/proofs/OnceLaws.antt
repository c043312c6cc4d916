-- A draft is finished in one way: the vectors of a decoder's links are independent, so one matrix alone makes the unit vectors of them.
use Rattle.std.specs.Prelude.{◌≡◌, ◌≢◌, ◌<◌, ℕ, suc, true, if◌then◌else◌, List, [], ◌∷◌, ◌++◌, Some, get_or, length, map, reverse, slice_get, slice_index, take}
use Rattle.std.specs.List.{AllByRecursion, concat}
use Rattle.std.proofs.Common.{arith, refl, sym, ap, inl, inr, subst, ◌∙◌}
use Rattle.std.proofs.Math.Path.{ap₂}
use Rattle.std.proofs.lemmas.Bool.{and_parts, cases_eq, cases_lt, false≢true}
use Rattle.std.proofs.lemmas.List.{append-nil, ext_get_or, get_or-map, get_or-take, get_or_at, length-append, length-map, length-replicate, length-take-le, map_push, take_all, take_at}
use Rattle.std.proofs.lemmas.List.Elements.{All-take, Contains-get_or}
use Rattle.std.proofs.lemmas.Option.{slice_get-get_or}
use Rattle.code_file.specs.Items.{bytes_in, bytes_of, items_in}
use Rattle.code_file.specs.declared.draft.Draft.{Draft}
use Rattle.code_finish.proofs.AddsUpLaws.{AreRows-vectors_of}
use Rattle.code_finish.proofs.DecodesLaws.{confused}
use Rattle.code_finish.proofs.FinishLaws.{HasIdentity, by_parts}
use Rattle.code_finish.proofs.TakenLaws.{raising_within, vector_sum}
use Rattle.code_finish.specs.Finished.{IsFinished}
use Rattle.code_finish.specs.Solved.{DecodesIn, IsConfused, IsDecoderOf, chosen, ins_to, vectors_under}
use Rattle.code_finish.specs.Taken.{raising}
use Rattle.failure_patterns.proofs.DemandLaws.{length-sinks_of_demands}
use Rattle.gf_tables.proofs.KindField.{kind_field}
use Rattle.gf_tables.specs.Inverse.{inverse}
use Rattle.gf_tables.specs.Product.{size_of}
use Rattle.gf_tables.specs.declared.kind.FieldKind.{FieldKind}
use Rattle.linear_algebra.proofs.CombinationLaws.{combination-IsRow, combination-add_rows, combination-take_more}
use Rattle.linear_algebra.proofs.EntryLaws.{concat-rows_of, rows_of-AreRows}
use Rattle.linear_algebra.proofs.RowLaws.{add_rows-IsRow, add_rows-self, add_rows-zero_row, scale_row-IsRow, scale_row-one, scale_row-scale_row, scale_row-zero, slice_index-zero_row}
use Rattle.linear_algebra.specs.Matrices.{identity, rows_of, times_rows}
use Rattle.linear_algebra.specs.Rows.{AreElements, AreRows, IsRow, add_rows, combination, scale_row, zero_row}
use Rattle.net_model.specs.Demands.{demand_count, pattern_of_demand, sink_of_demand, sinks_of_demands}
use Rattle.net_model.specs.Failed.{failed_links}
use Rattle.net_model.specs.declared.net.Net.{Net}
use Rattle.node_program.proofs.DecodingLaws.{IsAccepted-identity, accepted-decodes, decoder_shape}
use Rattle.node_program.specs.Code.{are_decoders}
use Rattle.node_program.specs.Decoding.{Decodes, IsDecoder}
use Rattle.node_program.proofs.VectorLaws.{IsRow-global_vector}
use Rattle.node_program.specs.declared.Decoder.{Decoder}
use Rattle.node_program.specs.declared.Operand.{Operand}
use Rattle.node_program.specs.declared.code.Code.{Code}
use Rattle.row_spans.proofs.DecidedLaws.{is_sum-false, is_sum-true}
use Rattle.row_spans.proofs.ReducedLaws.{entry_below, same_from_sum}
use Rattle.row_spans.proofs.SumLaws.{IsSum-of_sums, IsSum-scale_row, all_by_places}
use Rattle.row_spans.specs.Decided.{IsSum-decided}
use Rattle.row_spans.specs.Spans.{IsSum}

-- a row is a sum where a multiple of it by an element that isn't zero is one
sum_of_multiple : (field : FieldKind) (width : ℕ) (rows : List (List ℕ)) → AreRows field width rows → (times : ℕ) (row : List ℕ) → times < size_of field → times ≢ 0 → IsRow field width row
    → IsSum field width rows (scale_row field times row) → IsSum field width rows row
sum_of_multiple field width rows are times row below some is sum =
    let laws = kind_field field in
    let back = inverse field times in
    let back_below : back < size_of field = laws.inv_element times below some in
    let one : scale_row field back (scale_row field times row) ≡ row =
    scale_row-scale_row field back times row back_below below is.elements
    ∙ ap (λ (a : ℕ). scale_row field a row) (laws.mul_comm back times back_below below ∙ laws.mul_inv times below some)
    ∙ scale_row-one field row is.elements
    in
    subst (IsSum field width rows) one (IsSum-scale_row field width rows are back (scale_row field times row) back_below sum)

-- the sum of rows and one more, each times its coefficient
combination_last : (field : FieldKind) (width : ℕ) (coefficients : List ℕ) (rows : List (List ℕ)) (row : List ℕ) → length coefficients ≡ suc (length rows) → length row ≡ width
    → combination field width coefficients (rows ++ row ∷ [])
    ≡ add_rows (combination field width (take (length rows) coefficients) rows) (scale_row field (slice_index coefficients (length rows)) row)
combination_last field width coefficients rows row count wide =
    let k = length rows in
    let all = rows ++ row ∷ [] in
    let long : length all ≡ suc k = omega (arith, length-append rows (row ∷ [])) in
    let last : get_or all k [] ≡ row = get_or_at rows row [] [] k refl in
    ap₂ (combination field width) (sym (take_all (suc k) coefficients (omega (arith, count)))) (sym (take_all (suc k) all (omega (arith, long))))
    ∙ combination-take_more field width k coefficients all (omega (arith, count)) (omega (arith, long)) (ap (length {A = ℕ}) last ∙ wide)
    ∙ ap₂ (λ (front : List (List ℕ)) (one : List ℕ). add_rows (combination field width (take k coefficients) front) (scale_row field (slice_index coefficients k) one)) (take_at rows (row ∷ []) k refl) last

module _ (field : FieldKind) (rate : ℕ) (vector : ℕ → List ℕ) (are : (e : ℕ) → IsRow field rate (vector e)) where
  -- the sum of multiples of the links' vectors is zero only where each coefficient is
  abbrev AreIndependent : List ℕ → Type 0
  AreIndependent links =
      (coefficients : List ℕ) → AreElements field coefficients → length coefficients ≡ length links → combination field rate coefficients (map vector links) ≡ zero_row rate
      → coefficients ≡ zero_row (length coefficients)

  -- one more link, whose vector is no sum of theirs
  independent_more : (kept : List ℕ) (link : ℕ) → AreIndependent kept → ¬ IsSum field rate (map vector kept) (vector link) → AreIndependent (kept ++ link ∷ [])
  independent_more kept link old other coefficients elements count none =
      let rows = map vector kept in
      let k = length rows in
      let kept_count : k ≡ length kept = length-map kept vector in
      let long : length coefficients ≡ suc k = omega (arith, count, length-append kept (link ∷ []), kept_count) in
      let front = take k coefficients in
      let front_elements : AreElements field front = All-take (λ element. element < size_of field) k coefficients elements in
      let front_long : length front ≡ k = length-take-le k coefficients (omega (arith, long)) in
      let last = slice_index coefficients k in
      let last_below : last < size_of field = entry_below field (suc k) coefficients k (record { width = long; elements = elements }) (omega arith) in
      let rows_are = AreRows-vectors_of field rate vector are kept in
      let sum = combination field rate front rows in
      let sum_is : IsRow field rate sum = combination-IsRow field rate front rows front_elements rows_are in
      let multiple = scale_row field last (vector link) in
      let both : add_rows sum multiple ≡ zero_row rate =
      sym (combination_last field rate coefficients rows (vector link) long (are link).width)
      ∙ ap (combination field rate coefficients) (sym (map_push vector kept link))
      ∙ none
      in
      let nothing : last ≡ 0 = elim (cases_eq last 0) [
        | inl zero ↦ zero
        | inr some ↦
            let same : sum ≡ multiple = same_from_sum rate sum multiple sum_is.width (scale_row-IsRow field rate last (vector link) last_below (are link)).width both in
            let is_sum : IsSum field rate rows multiple = record { coefficients = front; elements = front_elements; count = front_long; sum = same } in
            absurd (other (sum_of_multiple field rate rows rows_are last (vector link) last_below some (are link) is_sum))
      ] in
      let zeros : multiple ≡ zero_row (length sum) =
      ap (λ (times : ℕ). scale_row field times (vector link)) nothing ∙ scale_row-zero field (vector link) ∙ ap zero_row ((are link).width ∙ sym sum_is.width)
      in
      let front_zero : front ≡ zero_row (length front) =
      old front front_elements (front_long ∙ kept_count) (sym (add_rows-zero_row sum) ∙ ap (add_rows sum) (sym zeros) ∙ both)
      in
      ext_get_or 0 coefficients (zero_row (length coefficients)) (sym (length-replicate (length coefficients) 0))
      (λ i inside.
      elim (cases_lt i k) [
        | inl before ↦
            sym (get_or-take k coefficients i 0 before) ∙ ap (λ (row : List ℕ). slice_index row i) front_zero ∙ slice_index-zero_row (length front) i
            ∙ sym (slice_index-zero_row (length coefficients) i)
        | inr past ↦
            let here : i ≡ k = omega (arith, inside, long, past) in
            ap (slice_index coefficients) here ∙ nothing ∙ sym (slice_index-zero_row (length coefficients) i)
      ])

  -- the vectors of the links that are kept are sums of those of all that came
  kept_sums : (earlier : List ℕ) → AllByRecursion (IsSum field rate (map vector earlier)) (map vector (raising field rate vector earlier))
  kept_sums earlier =
      let kept = raising field rate vector earlier in
      all_by_places (IsSum field rate (map vector earlier)) (map vector kept)
      (λ i inside.
      let below : i < length kept = omega (arith, inside, length-map kept vector) in
      subst (IsSum field rate (map vector earlier)) (sym (get_or-map vector kept i 0 [] below))
      (vector_sum field rate vector are earlier (get_or kept i 0) (raising_within field rate vector earlier (get_or kept i 0) (Contains-get_or kept i 0 below))))

  -- the vectors of the links that are kept are independent
  pub raising_independent : (earlier coefficients : List ℕ) → AreElements field coefficients → length coefficients ≡ length (raising field rate vector earlier)
      → combination field rate coefficients (map vector (raising field rate vector earlier)) ≡ zero_row rate → coefficients ≡ zero_row (length coefficients)
  raising_independent [] [] elements count none = refl
  raising_independent [] (x ∷ xs) elements count none = absurd (omega arith)
  raising_independent (link ∷ earlier) coefficients elements count none =
      let kept = raising field rate vector earlier in
      let came = map vector earlier in
      let old : AreIndependent kept = raising_independent earlier in
      let all : AreIndependent (raising field rate vector (link ∷ earlier)) = elim (IsSum-decided field rate came (vector link)) [
        | inl sum ↦ subst AreIndependent (sym (ap (λ b. kept ++ (if b then [] else link ∷ [])) (is_sum-true field rate came (vector link) sum) ∙ append-nil kept)) old
        | inr other ↦
            subst AreIndependent (sym (ap (λ b. kept ++ (if b then [] else link ∷ [])) (is_sum-false field rate came (vector link) other)))
            (independent_more kept link old (λ sum. other (IsSum-of_sums field rate came (AreRows-vectors_of field rate vector are earlier) (map vector kept) (kept_sums earlier) (vector link) sum)))
      ] in
      all coefficients elements count none

  -- where as many links as the rate are kept
  module _ (earlier : List ℕ) (full : length (raising field rate vector earlier) ≡ rate) where
    -- two rows of coefficients that make one row of their vectors are the same
    same_row : (xs ys : List ℕ) → IsRow field rate xs → IsRow field rate ys
        → combination field rate xs (map vector (raising field rate vector earlier)) ≡ combination field rate ys (map vector (raising field rate vector earlier)) → xs ≡ ys
    same_row xs ys x y same =
        let rows = map vector (raising field rate vector earlier) in
        let rows_are = AreRows-vectors_of field rate vector are (raising field rate vector earlier) in
        let both : IsRow field rate (add_rows xs ys) = add_rows-IsRow field rate xs ys x y in
        let none : combination field rate (add_rows xs ys) rows ≡ zero_row rate =
        combination-add_rows field rate xs ys rows x.elements y.elements (x.width ∙ sym y.width) rows_are
        ∙ ap (add_rows (combination field rate xs rows)) (sym same)
        ∙ add_rows-self (combination field rate xs rows)
        ∙ ap zero_row (combination-IsRow field rate xs rows x.elements rows_are).width
        in
        same_from_sum rate xs ys x.width y.width (raising_independent earlier (add_rows xs ys) both.elements (both.width ∙ sym full) none ∙ ap zero_row both.width)

    -- and so are two matrices that make the same rows
    pub same_matrix : (matrix other : List (List ℕ)) → AreRows field rate matrix → AreRows field rate other
        → times_rows field rate matrix (map vector (raising field rate vector earlier)) ≡ times_rows field rate other (map vector (raising field rate vector earlier)) → matrix ≡ other
    same_matrix [] [] x y same = refl
    same_matrix [] (row ∷ rows) x y same = absurd (cc)
    same_matrix (row ∷ rows) [] x y same = absurd (cc)
    same_matrix (row ∷ rows) (one ∷ others) x y same = ap₂ ◌∷◌ (same_row row one x.0 y.0 (cc)) (same_matrix rows others x.1 y.1 (cc))

-- a demand has one decoder
pub same_decoder : (draft : Draft) (demand : ℕ) (one other : Decoder) → IsDecoderOf draft demand one → IsDecoderOf draft demand other → one ≡ other
same_decoder draft demand one other is is_other =
    let field = draft.field in
    let rate = draft.rate in
    let vector = vectors_under draft (pattern_of_demand draft.net demand) in
    let came = reverse (ins_to draft.net (sink_of_demand draft.net demand)) in
    let kept = chosen draft demand in
    let full : length kept ≡ rate = ap (length {A = ℕ}) (sym is.links) ∙ is.full in
    let made : times_rows field rate (rows_of rate rate one.entries) (map vector kept) ≡ identity rate =
    ap (λ (links : List ℕ). times_rows field rate (rows_of rate rate one.entries) (map vector links)) (sym is.links) ∙ is.identity
    in
    let made_other : times_rows field rate (rows_of rate rate other.entries) (map vector kept) ≡ identity rate =
    ap (λ (links : List ℕ). times_rows field rate (rows_of rate rate other.entries) (map vector links)) (sym is_other.links) ∙ is_other.identity
    in
    let rows_are : AreRows field rate (rows_of rate rate one.entries) = rows_of-AreRows field rate rate one.entries (omega (arith, is.count)) is.elements in
    let other_are : AreRows field rate (rows_of rate rate other.entries) = rows_of-AreRows field rate rate other.entries (omega (arith, is_other.count)) is_other.elements in
    let same : rows_of rate rate one.entries ≡ rows_of rate rate other.entries =
    same_matrix field rate vector (IsRow-global_vector draft.draft (failed_links draft.net.patterns (pattern_of_demand draft.net demand))) came full
    (rows_of rate rate one.entries) (rows_of rate rate other.entries) rows_are other_are (made ∙ sym made_other)
    in
    let entries : one.entries ≡ other.entries =
    sym (concat-rows_of rate rate one.entries is.count) ∙ ap (λ (rows : List (List ℕ)). concat rows) same ∙ concat-rows_of rate rate other.entries is_other.count
    in
    ap₂ (λ (links entries : List ℕ). let decoder : Decoder = record { links = links; entries = entries } in decoder) (is.links ∙ sym is_other.links) entries

-- as many decoders as sinks
decoders_count : (net : Net) (rate : ℕ) (field : FieldKind) (sinks : List ℕ) (decoders : List Decoder) → are_decoders net rate field sinks decoders ≡ true → length decoders ≡ length sinks
decoders_count net rate field [] [] are = refl
decoders_count net rate field [] (decoder ∷ decoders) are = absurd (false≢true are)
decoders_count net rate field (sink ∷ sinks) [] are = absurd (false≢true are)
decoders_count net rate field (sink ∷ sinks) (decoder ∷ decoders) are = ap suc (decoders_count net rate field sinks decoders (and_parts _ _ are).1)

module _ (draft : Draft) (code : Code) (finished : IsFinished draft code) where
  -- what holds of the code's parts holds of the draft's
  of_draft : (P : Net → ℕ → FieldKind → List (List Operand) → Type 0) → P code.net code.rate code.field code.operands → P draft.net draft.rate draft.field draft.operands
  of_draft P = by_parts P finished.net finished.rate finished.field finished.operands

  -- the demands of the draft are the code's
  within_code : (demand : ℕ) → demand < demand_count draft.net → demand < demand_count code.net
  within_code demand = subst (λ net. demand < demand_count net) (sym finished.net)

  -- each demand of a finished draft decodes
  pub finished_decode : (demand : ℕ) → demand < demand_count draft.net → DecodesIn draft demand
  finished_decode demand within =
      of_draft (λ net rate field operands. Decodes net rate field operands demand) (accepted-decodes code finished.accepted demand (within_code demand within))

  -- the decoder at a demand's number is that demand's
  finished_decoder : (demand : ℕ) (decoder : Decoder) → demand < demand_count draft.net → slice_get code.decoders demand ≡ Some decoder → IsDecoderOf draft demand decoder
  finished_decoder demand decoder within at =
      let inside = within_code demand within in
      let shape = of_draft (λ net rate field operands. IsDecoder net rate field (sink_of_demand net demand) decoder) (decoder_shape code demand decoder inside at) in
      let product : HasIdentity draft.net draft.rate draft.field draft.operands (slice_get code.decoders demand) demand =
      of_draft (λ net rate field operands. HasIdentity net rate field operands (slice_get code.decoders demand) demand) ((IsAccepted-identity code).0 finished.accepted demand inside)
      in
      record {
        links = finished.links demand decoder within at;
        full = shape.link_count;
        count = shape.entry_count;
        elements = shape.elements;
        identity = subst (λ found. HasIdentity draft.net draft.rate draft.field draft.operands found demand) at product;
      }

  -- there is one for each demand
  finished_count : length code.decoders ≡ demand_count draft.net
  finished_count =
      decoders_count code.net code.rate code.field (sinks_of_demands code.net) code.decoders code.code.demand_decoders
      ∙ length-sinks_of_demands code.net ∙ ap demand_count finished.net

-- a demand that a block confuses doesn't decode
pub confused_undecided : (draft : Draft) (demand : ℕ) (block : List ℕ) → IsConfused draft demand block → ¬ DecodesIn draft demand
confused_undecided draft demand block is = confused draft.draft demand block is.elements is.nonzero is.zeros

module _ (draft : Draft) (one other : Code) (is : IsFinished draft one) (is_other : IsFinished draft other) where
  -- two codes that a draft is finished as have the same decoders
  pub finished_once : one.decoders ≡ other.decoders
  finished_once =
      let count = finished_count draft one is in
      let other_count = finished_count draft other is_other in
      let none : Decoder = record { links = []; entries = [] } in
      ext_get_or none one.decoders other.decoders (count ∙ sym other_count)
      (λ demand inside.
      let within : demand < demand_count draft.net = omega (arith, inside, count) in
      let first = get_or one.decoders demand none in
      let second = get_or other.decoders demand none in
      same_decoder draft demand first second (finished_decoder draft one is demand first within (slice_get-get_or one.decoders demand none inside))
      (finished_decoder draft other is_other demand second within (slice_get-get_or other.decoders demand none (omega (arith, within, other_count)))))

  -- so they are written the same
  pub same_bytes : bytes_of one ≡ bytes_of other
  unfolding bytes_in items_in
  same_bytes =
      rw (is.net ∙ sym is_other.net, is.rate ∙ sym is_other.rate, is.field ∙ sym is_other.field, is.operands ∙ sym is_other.operands, finished_once) refl
