-- Laws of global coding vectors. A link's vector has an element for each row of a block, and what the link carries is
-- the combination of the rows with those elements. So it is linear in the block.
use Rattle.std.specs.Prelude.{◌≡◌, ℕ, zero, suc, ◌<◌, Bool, true, false, List, [], length, map, if◌then◌else◌}
use Rattle.std.proofs.Common.{refl, sym, ap, ◌∙◌, subst, inl, inr}
use Rattle.std.proofs.lemmas.Bool.{cases_Bool}
use Rattle.std.proofs.lemmas.List.Elements.{All-map, All-weaker, recursion_from_All}
use Rattle.std.proofs.lemmas.Option.{unwrap_or-slice_get}
use Rattle.std.proofs.lemmas.Simd.{map-map}
use Rattle.item_list.proofs.Maps.{map-agree}
use Rattle.gf_tables.specs.Product.{size_of}
use Rattle.gf_tables.specs.declared.kind.FieldKind.{FieldKind}
use Rattle.net_model.specs.Lists.{is_among}
use Rattle.net_model.specs.declared.net.Net.{Net}
use Rattle.linear_algebra.proofs.CombinationLaws.{combination-add_blocks, combination-map-scale_row, combination-zero_row, combination-unit_row}
use Rattle.linear_algebra.specs.Matrices.{add_blocks}
use Rattle.linear_algebra.proofs.MatrixLaws.{combination-times_rows}
use Rattle.linear_algebra.specs.Rows.{add_rows, scale_row, combination, unit_row, zero_row, IsRow, AreRows}
use Rattle.node_program.proofs.BlockLaws.{AreRows-block, IsBlock-identity, width_of-identity, row_at-identity, IsBlock-add_blocks, width_of-add_blocks, IsBlock-map-scale_row, width_of-map-scale_row}
use Rattle.node_program.specs.Code.{IsDraft}
use Rattle.node_program.specs.Decoding.{IsBlock}
use Rattle.node_program.proofs.OperandLaws.{operands_of_draft}
use Rattle.node_program.specs.Operands.{IsOperand}
use Rattle.net_model.specs.Walks.{leaves_source}
use Rattle.node_program.specs.Value.{width_of, row_at, operands_at, value_within, value, unit_block, global_vector, vector_from}
use Rattle.node_program.proofs.ValueLaws.{coefficients-elements, either_row, value-equation, IsRow-row_at, IsRow-value, IsRow-value_within}
use Rattle.node_program.specs.declared.Operand.{Operand}

-- a link's vector is a row of as many elements as the rate
pub IsRow-global_vector : {net : Net} {rate : ℕ} {field : FieldKind} {operands : List (List Operand)} → IsDraft net rate field operands
    → (failed : List ℕ) (link : ℕ) → IsRow field rate (global_vector net field operands failed rate link)
IsRow-global_vector {net} {rate} {field} {operands} draft failed link =
    let Fits : ℕ → Type 0 = λ width. IsRow field width (global_vector net field operands failed rate link) in
    subst Fits (width_of-identity rate) (IsRow-value draft (IsBlock-identity field rate) failed link)

-- either of two rows is a combination of the rows of a block
either_combination : (field : FieldKind) (width : ℕ) (block : List (List ℕ)) (test : Bool) (x y u v : List ℕ)
    → (test ≡ true → x ≡ combination field width u block) → y ≡ combination field width v block
    → (if test then x else y) ≡ combination field width (if test then u else v) block
either_combination field width block true x y u v first second = first refl
either_combination field width block false x y u v first second = second

-- within each bound, a link carries the combination of the block's rows with its vector
pub value_within-vector : {net : Net} {rate : ℕ} {field : FieldKind} {operands : List (List Operand)} {block : List (List ℕ)} → IsDraft net rate field operands
    → IsBlock field rate block → (failed : List ℕ) (bound link : ℕ)
    → value_within bound net field operands failed block link
    ≡ combination field (width_of block) (value_within bound net field operands failed (unit_block rate) link) block
unfolding value_within
value_within-vector {net} {rate} {field} {operands} {block} draft is failed zero link =
    sym (combination-zero_row field (width_of block) (width_of (unit_block rate)) block (AreRows-block is))
value_within-vector {net} {rate} {field} {operands} {block} draft is failed (suc bound) link = elim (cases_Bool (is_among failed link)) [
  | inl fails ↦ rw fails (sym (combination-zero_row field (width_of block) (width_of (unit_block rate)) block (AreRows-block is)))
  | inr whole ↦
      let P : Operand → Type 0 = IsOperand net rate field link in
      let width = width_of block in
      let size = width_of (unit_block rate) in
      let coefficients = map (λ operand. operand.times) (operands_at operands link) in
      let carried : Operand → List ℕ =
      λ operand. if leaves_source net link then row_at block operand.from else value_within bound net field operands failed block operand.from in
      let vector : Operand → List ℕ =
      λ operand. if leaves_source net link then row_at (unit_block rate) operand.from else value_within bound net field operands failed (unit_block rate) operand.from in
      let source : (operand : Operand) → P operand → leaves_source net link ≡ true
      → row_at block operand.from ≡ combination field width (row_at (unit_block rate) operand.from) block =
      λ operand is_operand leaves.
      let below = is_operand.source_row leaves in
      rw (row_at-identity rate operand.from below, combination-unit_row field width rate operand.from block below is.rows (AreRows-block is))
      (unwrap_or-slice_get block operand.from []) in
      let rows : map carried (operands_at operands link) ≡ map (λ operand. combination field width (vector operand) block) (operands_at operands link) =
      map-agree carried (λ operand. combination field width (vector operand) block) P
      (λ operand is_operand. either_combination field width block (leaves_source net link) _ _ _ _
      (source operand is_operand) (value_within-vector draft is failed bound operand.from))
      (operands_at operands link) (operands_of_draft draft link) in
      let vectors : AreRows field size (map vector (operands_at operands link)) =
      recursion_from_All (IsRow field size) _ (All-map (IsRow field size) vector (operands_at operands link)
      (All-weaker P (λ operand. IsRow field size (vector operand))
      (λ operand is_operand. either_row field size (leaves_source net link) _ _
      (λ leaves. IsRow-row_at (IsBlock-identity field rate) operand.from (is_operand.source_row leaves))
      (IsRow-value_within draft (IsBlock-identity field rate) failed bound operand.from))
      (operands_at operands link) (operands_of_draft draft link))) in
      let product = map-map (λ (row : List ℕ). combination field width row block) vector (operands_at operands link) in
      rw whole (
      ap (λ (rows : List (List ℕ)). combination field width coefficients rows) (rows ∙ sym product)
      ∙ combination-times_rows field width size coefficients (map vector (operands_at operands link)) block
      (coefficients-elements draft link) vectors (AreRows-block is))
]

-- a link carries the combination of the block's rows with its vector
pub value-vector : {net : Net} {rate : ℕ} {field : FieldKind} {operands : List (List Operand)} {block : List (List ℕ)} → IsDraft net rate field operands
    → IsBlock field rate block → (failed : List ℕ) (link : ℕ)
    → value net field operands failed block link ≡ combination field (width_of block) (global_vector net field operands failed rate link) block
value-vector draft is failed link = value_within-vector draft is failed (suc link) link

-- either of two rows is either of two others
either_same : (test : Bool) (x y z : List ℕ) → (test ≡ true → x ≡ z) → (if test then x else y) ≡ (if test then z else y)
either_same true x y z first = first refl
either_same false x y z first = refl

-- the vector of a link, by the vectors of the links that it reads
pub global_vector-equation : {net : Net} {rate : ℕ} {field : FieldKind} {operands : List (List Operand)} → IsDraft net rate field operands
    → (failed : List ℕ) (link : ℕ)
    → global_vector net field operands failed rate link
    ≡ vector_from net field operands failed rate (λ from. global_vector net field operands failed rate from) link
global_vector-equation {net} {rate} {field} {operands} draft failed link =
    let vectors : ℕ → List ℕ = λ from. global_vector net field operands failed rate from in
    let rows = map-agree
    (λ operand. if leaves_source net link then row_at (unit_block rate) operand.from else vectors operand.from)
    (λ operand. if leaves_source net link then unit_row rate operand.from else vectors operand.from)
    (IsOperand net rate field link)
    (λ operand is_operand. either_same (leaves_source net link) _ _ _ (λ leaves. row_at-identity rate operand.from (is_operand.source_row leaves)))
    (operands_at operands link) (operands_of_draft draft link) in
    let narrow : ℕ → List ℕ = λ width.
    if is_among failed link then zero_row width
    else combination field width (map (λ operand. operand.times) (operands_at operands link))
    (map (λ operand. if leaves_source net link then row_at (unit_block rate) operand.from else vectors operand.from) (operands_at operands link)) in
    value-equation draft failed (unit_block rate) link
    ∙ ap narrow (width_of-identity rate)
    ∙ ap (λ (rows : List (List ℕ)).
    if is_among failed link then zero_row rate
    else combination field rate (map (λ operand. operand.times) (operands_at operands link)) rows) rows

-- on the sums of the rows of two blocks of one width, a link carries the sum of what it carries on each
pub value-add_blocks : {net : Net} {rate : ℕ} {field : FieldKind} {operands : List (List Operand)} {block other : List (List ℕ)} → IsDraft net rate field operands
    → IsBlock field rate block → IsBlock field rate other → width_of block ≡ width_of other → (failed : List ℕ) (link : ℕ)
    → value net field operands failed (add_blocks block other) link
    ≡ add_rows (value net field operands failed block link) (value net field operands failed other link)
value-add_blocks {net} {rate} {field} {operands} {block} {other} draft is is_other wide failed link =
    let vector = global_vector net field operands failed rate link in
    let same : length block ≡ length other = is.rows ∙ sym is_other.rows in
    let Fits : ℕ → Type 0 = λ width. AreRows field width block in
    value-vector draft (IsBlock-add_blocks is is_other wide) failed link
    ∙ ap (λ width. combination field width vector (add_blocks block other)) (width_of-add_blocks block other same wide)
    ∙ combination-add_blocks field (width_of other) vector block other (IsRow-global_vector draft failed link).elements
    (subst Fits wide (AreRows-block is)) (AreRows-block is_other) same
    ∙ ap (λ width. add_rows (combination field width vector block) (combination field (width_of other) vector other)) (sym wide)
    ∙ ap (λ (row : List ℕ). add_rows row (combination field (width_of other) vector other)) (sym (value-vector draft is failed link))
    ∙ ap (add_rows (value net field operands failed block link)) (sym (value-vector draft is_other failed link))

-- on the multiples of the rows of a block by one element, a link carries that multiple of what it carries on the block
pub value-map-scale_row : {net : Net} {rate : ℕ} {field : FieldKind} {operands : List (List Operand)} {block : List (List ℕ)} → IsDraft net rate field operands
    → IsBlock field rate block → (times : ℕ) → times < size_of field → (failed : List ℕ) (link : ℕ)
    → value net field operands failed (map (scale_row field times) block) link ≡ scale_row field times (value net field operands failed block link)
value-map-scale_row {net} {rate} {field} {operands} {block} draft is times below failed link =
    let vector = global_vector net field operands failed rate link in
    value-vector draft (IsBlock-map-scale_row is times below) failed link
    ∙ ap (λ width. combination field width vector (map (scale_row field times) block)) (width_of-map-scale_row field times block)
    ∙ combination-map-scale_row field (width_of block) times vector block below (IsRow-global_vector draft failed link).elements (AreRows-block is)
    ∙ ap (scale_row field times) (sym (value-vector draft is failed link))
