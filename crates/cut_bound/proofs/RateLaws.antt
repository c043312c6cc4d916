-- The rate of a code is at most the number of links of each cut of a demand that decodes: fewer links would carry
-- zeros of some block that isn't zero, and then so would all links into the sink.
use Rattle.std.specs.Prelude.{◌≡◌, ℕ, ◌<◌, ◌≤◌, true, ◌==◌, List, [], ◌∷◌, length, map}
use Rattle.std.proofs.Common.{arith, refl, sym, ap, ◌∙◌, subst, inl, inr}
use Rattle.std.proofs.lemmas.Bool.{or_cases, eqb-true, false≢true}
use Rattle.std.proofs.lemmas.List.{length-map}
use Rattle.gf_tables.specs.declared.kind.FieldKind.{FieldKind}
use Rattle.failure_patterns.specs.Demands.{demand_of}
use Rattle.linear_algebra.proofs.CombinationLaws.{combination-columns}
use Rattle.linear_algebra.proofs.DotLaws.{dot-zero_row}
use Rattle.linear_algebra.proofs.RowLaws.{AreElements-head, AreElements-tail, AreElements-cons, AreElements-nil, zero_row-IsRow}
use Rattle.linear_algebra.specs.Matrices.{column}
use Rattle.linear_algebra.specs.Rows.{combination, dot, zero_row, AreElements, IsRow, AreRows}
use Rattle.net_model.specs.Demands.{demand_count, pattern_of_demand}
use Rattle.net_model.specs.Failed.{failed_links}
use Rattle.net_model.specs.Flows.{flow_network, IsCut}
use Rattle.net_model.specs.Lists.{is_among}
use Rattle.net_model.specs.declared.net.Net.{Net}
use Rattle.node_program.proofs.BlockLaws.{IsBlock-rows}
use Rattle.node_program.proofs.DecodingLaws.{GivesBack-decodes}
use Rattle.node_program.proofs.VectorLaws.{IsRow-global_vector, value-vector}
use Rattle.node_program.specs.Code.{IsDraft}
use Rattle.node_program.specs.Decoding.{IsBlock, Decodes, GivesBack, IsAccepted}
use Rattle.node_program.specs.Value.{width_of, value, global_vector}
use Rattle.node_program.specs.declared.Operand.{Operand}
use Rattle.node_program.specs.declared.code.Code.{Code}
use Rattle.cut_bound.specs.Cuts.{IsWithinCuts}
use Rattle.cut_bound.specs.Hidden.{hidden, IsZeroUnder}
use Rattle.cut_bound.proofs.HiddenLaws.{IsHidden-hidden}
use Rattle.cut_bound.proofs.CutLaws.{zero_behind_cut}

-- rows of one element each
abbrev pub single_rows : List ℕ → List (List ℕ)
single_rows elements = map (λ element. element ∷ []) elements

-- they are rows
AreRows-single_rows : (field : FieldKind) (elements : List ℕ) → AreElements field elements → AreRows field 1 (single_rows elements)
AreRows-single_rows field [] are = tt
AreRows-single_rows field (x ∷ xs) are = (
  record { width = refl; elements = AreElements-cons field x [] (AreElements-head field x xs are) (AreElements-nil field) },
  AreRows-single_rows field xs (AreElements-tail field x xs are),
)

-- some rows of one element each have the width 1
pub width_of-single_rows : (elements : List ℕ) → 1 ≤ length elements → width_of (single_rows elements) ≡ 1
width_of-single_rows [] some = absurd (omega arith)
width_of-single_rows (x ∷ xs) some = refl

-- their elements
pub column-single_rows : (elements : List ℕ) → column 0 (single_rows elements) ≡ elements
column-single_rows [] = refl
column-single_rows (x ∷ xs) = ap (λ (rest : List ℕ). x ∷ rest) (column-single_rows xs)

-- as many rows of one element each as the rate are a block
pub IsBlock-single_rows : (field : FieldKind) (rate : ℕ) (elements : List ℕ) → 1 ≤ rate → IsRow field rate elements → IsBlock field rate (single_rows elements)
IsBlock-single_rows field rate elements some is =
    IsBlock-rows field rate 1 (single_rows elements) (length-map elements (λ element. element ∷ []) ∙ is.width)
    (width_of-single_rows elements (omega (arith, is.width))) (AreRows-single_rows field elements is.elements)

-- a row that is zero under the rows of links is so under that of each of them
zero_of_link : (field : FieldKind) (vector : ℕ → List ℕ) (links : List ℕ) (row : List ℕ) → IsZeroUnder field (map vector links) row
    → (link : ℕ) → is_among links link ≡ true → dot field (vector link) row ≡ 0
zero_of_link field vector [] row zeros link among = absurd (false≢true among)
zero_of_link field vector (one ∷ links) row zeros link among = elim (or_cases (one == link) (is_among links link) among) [
  | inl here ↦ subst (λ l. dot field (vector l) row ≡ 0) (eqb-true one link here) zeros.0
  | inr later ↦ zero_of_link field vector links row zeros.1 link later
]

-- the vectors of links are rows of elements
AreRows-vectors : {net : Net} {rate : ℕ} {field : FieldKind} {operands : List (List Operand)} → IsDraft net rate field operands
    → (failed links : List ℕ) → AreRows field rate (map (global_vector net field operands failed rate) links)
AreRows-vectors draft failed [] = tt
AreRows-vectors draft failed (link ∷ links) = (IsRow-global_vector draft failed link, AreRows-vectors draft failed links)

-- of a block with rows of one element each, a link carries the product of its vector and the elements
pub value-single_rows : {net : Net} {rate : ℕ} {field : FieldKind} {operands : List (List Operand)} → IsDraft net rate field operands
    → (failed elements : List ℕ) → IsRow field rate elements → (link : ℕ)
    → value net field operands failed (single_rows elements) link ≡ dot field (global_vector net field operands failed rate link) elements ∷ []
value-single_rows {net} {rate} {field} {operands} draft failed elements is link =
    let vector = global_vector net field operands failed rate link in
    let wide : width_of (single_rows elements) ≡ 1 = width_of-single_rows elements (omega (arith, is.width, draft.some_rate)) in
    value-vector draft (IsBlock-single_rows field rate elements draft.some_rate is) failed link
    ∙ ap (λ width. combination field width vector (single_rows elements)) wide
    ∙ combination-columns field 1 vector (single_rows elements) (IsRow-global_vector draft failed link).elements (AreRows-single_rows field elements is.elements)
    ∙ ap (λ (entries : List ℕ). dot field vector entries ∷ []) (column-single_rows elements)

module _ {net : Net} {rate : ℕ} {field : FieldKind} {operands : List (List Operand)} (draft : IsDraft net rate field operands) (demand : ℕ)
    (decodes : Decodes net rate field operands demand) (cut : List ℕ) (is : IsCut (flow_network net (demand_of net demand)) cut) where
  abbrev failed : List ℕ
  failed = failed_links net.patterns (pattern_of_demand net demand)

  -- a row that the links of the cut carry as zeros is the row of zeros
  only_zeros : (row : List ℕ) → IsRow field rate row → IsZeroUnder field (map (global_vector net field operands failed rate) cut) row → row ≡ zero_row rate
  only_zeros row row_is zeros =
      let zeros_is = zero_row-IsRow field rate in
      let wide : width_of (single_rows row) ≡ 1 = width_of-single_rows row (omega (arith, row_is.width, draft.some_rate)) in
      let zeros_wide : width_of (single_rows (zero_row rate)) ≡ 1 = width_of-single_rows (zero_row rate) (omega (arith, zeros_is.width, draft.some_rate)) in
      let on_cut : (link : ℕ) → is_among cut link ≡ true → value net field operands failed (single_rows row) link ≡ zero_row (width_of (single_rows row)) =
      λ link among.
      value-single_rows draft failed row row_is link
      ∙ ap (λ (n : ℕ). n ∷ []) (zero_of_link field (global_vector net field operands failed rate) cut row zeros link among)
      ∙ ap zero_row (sym wide) in
      let same : single_rows row ≡ single_rows (zero_row rate) =
      decodes (single_rows row) (single_rows (zero_row rate)) (IsBlock-single_rows field rate row draft.some_rate row_is)
      (IsBlock-single_rows field rate (zero_row rate) draft.some_rate zeros_is) (wide ∙ sym zeros_wide)
      (λ link into.
      zero_behind_cut draft (demand_of net demand) cut (single_rows row) on_cut is link into
      ∙ ap zero_row wide
      ∙ sym (value-single_rows draft failed (zero_row rate) zeros_is link
      ∙ ap (λ (n : ℕ). n ∷ []) (dot-zero_row field rate (global_vector net field operands failed rate link) (IsRow-global_vector draft failed link).elements))) in
      sym (column-single_rows row) ∙ ap (column 0) same ∙ column-single_rows (zero_row rate)

  -- a cut doesn't have fewer links than the rate
  no_fewer : length cut < rate → ⊥
  no_fewer fewer =
      let vectors = map (global_vector net field operands failed rate) cut in
      let few : length vectors < rate = omega (arith, fewer, length-map cut (global_vector net field operands failed rate)) in
      let found = IsHidden-hidden field rate vectors few (AreRows-vectors draft failed cut) in
      found.nonzero (only_zeros (hidden field rate vectors) found.elements found.products)

  -- where a demand decodes, the rate is at most the number of links of a cut of it
  pub Decodes-rate : rate ≤ length cut
  Decodes-rate = omega (arith, no_fewer)

-- where a demand's decoder gives back every block, the rate is at most the number of links of a cut of it
pub rate-at-most-cut : (code : Code) (demand : ℕ) → demand < demand_count code.net → GivesBack code demand
    → (cut : List ℕ) → IsCut (flow_network code.net (demand_of code.net demand)) cut → code.rate ≤ length cut
rate-at-most-cut code demand within gives cut is = Decodes-rate code.code.draft demand (GivesBack-decodes code demand within gives) cut is

-- the rate of an accepted code is at most the number of links of each cut of each demand
pub accepted-within_cuts : (code : Code) → IsAccepted code → IsWithinCuts code.net code.rate
accepted-within_cuts code accepted demand within cut is = rate-at-most-cut code demand within (accepted demand within) cut is
