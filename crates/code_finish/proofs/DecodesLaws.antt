-- What links into a sink tell of blocks: where unit rows are sums of their vectors they tell all, and where they carry zeros of a
-- block that isn't zeros they don't.
use Rattle.std.specs.Prelude.{◌≡◌, ◌≢◌, ◌<◌, ◌∷◌, ℕ, List, [], IsTrue, get_or, map}
use Rattle.std.specs.List.{Contains}
use Rattle.std.proofs.Common.{arith, refl, sym, ap, ◌∙◌}
use Rattle.std.proofs.Math.Path.{ap₂}
use Rattle.std.proofs.lemmas.List.{ext_get_or}
use Rattle.cut_bound.proofs.RateLaws.{IsBlock-single_rows, column-single_rows, single_rows, value-single_rows, width_of-single_rows}
use Rattle.gf_tables.specs.declared.kind.FieldKind.{FieldKind}
use Rattle.linear_algebra.proofs.CombinationLaws.{combination-unit_row}
use Rattle.linear_algebra.proofs.DotLaws.{dot-zero_row}
use Rattle.linear_algebra.proofs.MatrixLaws.{combination-times_rows}
use Rattle.linear_algebra.proofs.RowLaws.{zero_row-IsRow}
use Rattle.linear_algebra.specs.Matrices.{column, times_rows}
use Rattle.linear_algebra.specs.Rows.{IsRow, combination, dot, unit_row, zero_row}
use Rattle.net_model.specs.Demands.{pattern_of_demand, sink_of_demand}
use Rattle.net_model.specs.Failed.{failed_links}
use Rattle.net_model.specs.declared.net.Net.{Net}
use Rattle.node_program.proofs.BlockLaws.{AreRows-block}
use Rattle.node_program.proofs.VectorLaws.{IsRow-global_vector, value-vector}
use Rattle.node_program.specs.Code.{IsDraft, leads_into}
use Rattle.node_program.specs.Decoding.{Decodes, IsBlock}
use Rattle.node_program.specs.Value.{global_vector, value, width_of}
use Rattle.node_program.specs.declared.Operand.{Operand}
use Rattle.item_list.proofs.Maps.{map-agree}
use Rattle.std.proofs.lemmas.List.Elements.{All-contains_itself}
use Rattle.code_finish.proofs.AddsUpLaws.{AreRows-vectors_of}
use Rattle.row_spans.specs.Spans.{IsSum}

module _ {net : Net} {rate : ℕ} {field : FieldKind} {operands : List (List Operand)} (draft : IsDraft net rate field operands) (failed : List ℕ) where
  abbrev vector : ℕ → List ℕ
  vector = global_vector net field operands failed rate

  -- links carry their vectors times the block
  values : (block : List (List ℕ)) → IsBlock field rate block → (links : List ℕ)
      → map (value net field operands failed block) links ≡ times_rows field (width_of block) (map vector links) block
  values block is [] = refl
  values block is (link ∷ links) = ap₂ ◌∷◌ (value-vector draft is failed link) (values block is links)

  -- a row of a block, of what links carry
  block_row : (block : List (List ℕ)) → IsBlock field rate block → (links : List ℕ) (k : ℕ) → k < rate → (sum : IsSum field rate (map vector links) (unit_row rate k))
      → get_or block k [] ≡ combination field (width_of block) sum.coefficients (map (value net field operands failed block) links)
  block_row block is links k below sum =
      let width = width_of block in
      let rows = AreRows-block is in
      sym (combination-unit_row field width rate k block below is.rows rows)
      ∙ ap (λ (times : List ℕ). combination field width times block) (sym sum.sum)
      ∙ sym (combination-times_rows field width rate sum.coefficients (map vector links) block sum.elements (AreRows-vectors_of field rate vector (IsRow-global_vector draft failed) links) rows)
      ∙ ap (combination field width sum.coefficients) (sym (values block is links))

  -- a link whose vector gives zero with a block carries zero of its rows of one element each
  pub zeros_carried : (block : List ℕ) → IsRow field rate block → (link : ℕ) → dot field (global_vector net field operands failed rate link) block ≡ 0
      → value net field operands failed (map (λ x. x ∷ []) block) link ≡ 0 ∷ []
  zeros_carried block is link zero = value-single_rows draft failed block is link ∙ ap (λ (n : ℕ). n ∷ []) zero

module _ {net : Net} {rate : ℕ} {field : FieldKind} {operands : List (List Operand)} (draft : IsDraft net rate field operands) (demand : ℕ) where
  abbrev failed : List ℕ
  failed = failed_links net.patterns (pattern_of_demand net demand)

  -- links into the sink of a demand whose vectors have the unit rows as sums tell blocks apart
  pub spans_decode : (ins : List ℕ) → ((link : ℕ) → Contains ins link → IsTrue (leads_into net.links (sink_of_demand net demand) link))
      → ((k : ℕ) → k < rate → IsSum field rate (map (global_vector net field operands (failed_links net.patterns (pattern_of_demand net demand)) rate) ins) (unit_row rate k))
      → Decodes net rate field operands demand
  spans_decode ins into units block other is is_other wide same =
      let carried : map (value net field operands failed block) ins ≡ map (value net field operands failed other) ins =
      map-agree (value net field operands failed block) (value net field operands failed other) (Contains ins) (λ link has. same link (into link has)) ins (All-contains_itself ins)
      in
      ext_get_or [] block other (is.rows ∙ sym is_other.rows)
      (λ k inside.
      let below : k < rate = omega (arith, inside, is.rows) in
      let sum = units k below in
      block_row draft failed block is ins k below sum
      ∙ ap₂ (λ (width : ℕ) (rows : List (List ℕ)). combination field width sum.coefficients rows) wide carried
      ∙ sym (block_row draft failed other is_other ins k below sum))

  -- a demand doesn't decode where all links into its sink carry zeros of a block that isn't zeros
  pub confused : (block : List ℕ) → IsRow field rate block → block ≢ zero_row rate
      → ((link : ℕ) → IsTrue (leads_into net.links (sink_of_demand net demand) link)
      → value net field operands (failed_links net.patterns (pattern_of_demand net demand)) (map (λ x. x ∷ []) block) link ≡ 0 ∷ [])
      → ¬ Decodes net rate field operands demand
  confused block is nonzero zeros decodes =
      let none = zero_row-IsRow field rate in
      let wide = width_of-single_rows block (omega (arith, is.width, draft.some_rate)) in
      let none_wide = width_of-single_rows (zero_row rate) (omega (arith, none.width, draft.some_rate)) in
      let same = decodes (single_rows block) (single_rows (zero_row rate)) (IsBlock-single_rows field rate block draft.some_rate is)
      (IsBlock-single_rows field rate (zero_row rate) draft.some_rate none) (wide ∙ sym none_wide)
      (λ link into. zeros link into
      ∙ sym (zeros_carried draft failed (zero_row rate) none link
      (dot-zero_row field rate (global_vector net field operands failed rate link) (IsRow-global_vector draft failed link).elements)))
      in
      nonzero (sym (column-single_rows block) ∙ ap (column 0) same ∙ column-single_rows (zero_row rate))
