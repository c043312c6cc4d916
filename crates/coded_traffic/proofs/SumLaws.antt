-- A link's payload by the payloads of what it reads.
use Rattle.std.specs.Prelude.{◌≡◌, ◌<◌, ◌*◌, ℕ, Bool, true, false, cond, if◌then◌else◌, List, [], ◌∷◌, length, map, take, drop, filter, All}
use Rattle.std.proofs.Common.{refl, sym, ap, subst, ◌∙◌, inl, inr}
use Rattle.std.proofs.lemmas.Bool.{cases_Bool, or_parts, true≢false}
use Rattle.std.proofs.lemmas.List.Elements.{All-map, All-weaker, All-head, All-tail, recursion_from_All}
use Rattle.std.proofs.lemmas.Simd.{map-map}
use Rattle.gf_tables.specs.Product.{size_of}
use Rattle.gf_tables.specs.declared.kind.FieldKind.{FieldKind}
use Rattle.linear_algebra.specs.Elements.{elements_of, bytes_of_row}
use Rattle.linear_algebra.specs.Rows.{combination, zero_row, add_rows, scale_row, AreRows, IsRow}
use Rattle.linear_algebra.proofs.CombinationLaws.{combination-one, length-combination}
use Rattle.linear_algebra.proofs.RowLaws.{scale_row-zero_row, zero_row-add_rows}
use Rattle.net_model.specs.Failed.{failed_links, is_failed_in}
use Rattle.net_model.specs.Walks.{leaves_source}
use Rattle.node_program.proofs.LiveLaws.{is_live_in-failed}
use Rattle.item_list.proofs.Maps.{map-agree}
use Rattle.node_program.proofs.ValueLaws.{IsRow-row_at, IsRow-value, either_row, value-dead, value-equation}
use Rattle.node_program.proofs.OperandLaws.{operands_of_draft}
use Rattle.node_program.specs.Operands.{IsOperand}
use Rattle.node_program.specs.CodeValue.{is_live_in, reads_live_in, value_in}
use Rattle.node_program.specs.Value.{operands_at, row_at, width_of}
use Rattle.node_program.specs.declared.Operand.{Operand}
use Rattle.node_program.specs.declared.code.Code.{Code}
use Rattle.coded_traffic.proofs.BlockLaws.{IsBlock-block_elements, row_at-block_elements, width_of-block_elements}
use Rattle.coded_traffic.proofs.RowLaws.{elements_at-IsRow, row_lies_within, row_of-back}
use Rattle.coded_traffic.specs.CodeBlocks.{block_elements, elements_at, IsBlockOf, row_of, row_width}
use Rattle.coded_traffic.specs.RowLinks.{CarriesRow}
use Rattle.coded_traffic.proofs.PieceLaws.{AreRows-piece, elements_in, elements_in-zero_row, elements_in-combination, elements_of-piece, elements_of-piece_of_row, piece_of_row-bytes}
use Rattle.generation_frame.specs.Blocks.{piece_of_row}
use Rattle.coded_traffic.specs.Traffic.{live_operands, operand_payload, payload_in, piece_width, sum_of}

-- rows of which those that don't pass a test are zeros add nothing
combination-passing : {X : Type 0} (field : FieldKind) (width : ℕ) (test : X → Bool) (times : X → ℕ) (row : X → List ℕ) (xs : List X)
    → All (λ x. times x < size_of field) xs → AreRows field width (map row xs) → All (λ x. test x ≡ false → row x ≡ zero_row width) xs
    → combination field width (map times (filter test xs)) (map row (filter test xs)) ≡ combination field width (map times xs) (map row xs)
combination-passing field width test times row [] small wide zeros = refl
combination-passing field width test times row (x ∷ xs) small wide zeros =
    by (test x) refl (combination-passing field width test times row xs (All-tail (λ x. times x < size_of field) x xs small) wide.1 (All-tail (λ x. test x ≡ false → row x ≡ zero_row width) x xs zeros))
  where
    by : (b : Bool) → test x ≡ b
        → combination field width (map times (filter test xs)) (map row (filter test xs)) ≡ combination field width (map times xs) (map row xs)
        → combination field width (map times (cond b (x ∷ filter test xs) (filter test xs))) (map row (cond b (x ∷ filter test xs) (filter test xs)))
        ≡ combination field width (map times (x ∷ xs)) (map row (x ∷ xs))
    by true passes rest = ap (add_rows (scale_row field (times x) (row x))) rest
    by false fails rest =
        let none : row x ≡ zero_row width = All-head (λ x. test x ≡ false → row x ≡ zero_row width) x xs zeros fails in
        let more = combination field width (map times xs) (map row xs) in
        let long : length more ≡ width = length-combination field width (map times xs) (map row xs) wide.1 in
        let nothing : scale_row field (times x) (row x) ≡ zero_row (length more) =
        ap (scale_row field (times x)) none ∙ scale_row-zero_row field (times x) width (All-head (λ x. times x < size_of field) x xs small) ∙ ap zero_row (sym long) in
        rest ∙ sym (ap (λ row. add_rows row more) nothing ∙ zero_row-add_rows more)

module _ (code : Code) (pattern : ℕ) (block : List ℕ) (is : IsBlockOf code block) (piece : ℕ) (low : piece < 8) (link : ℕ) where
  -- what an operand stands for, as a row of elements
  abbrev row : Operand → List ℕ
  row operand = if leaves_source code.net link then row_at (block_elements code block) operand.from else value_in code pattern (block_elements code block) operand.from

  abbrev operands : List Operand
  operands = operands_at code.operands link

  abbrev Is : Operand → Type 0
  Is = IsOperand code.net code.rate code.field link

  all : All Is operands
  all = operands_of_draft code.code.draft link

  wide : width_of (block_elements code block) ≡ row_width code.field
  wide = width_of-block_elements code block is

  rows : AreRows code.field (row_width code.field) (map row operands)
  rows =
      let as_wide : AreRows code.field (width_of (block_elements code block)) (map row operands) =
      recursion_from_All (IsRow code.field (width_of (block_elements code block))) _
      (All-map (IsRow code.field (width_of (block_elements code block))) row operands
      (All-weaker Is (λ operand. IsRow code.field (width_of (block_elements code block)) (row operand))
      (λ operand is_operand. either_row code.field (width_of (block_elements code block)) (leaves_source code.net link) _ _
      (λ leaves. IsRow-row_at (IsBlock-block_elements code block is) operand.from (is_operand.source_row leaves))
      (IsRow-value code.code.draft (IsBlock-block_elements code block is) (failed_links code.net.patterns pattern) operand.from))
      operands all)) in
      subst (λ n. AreRows code.field n (map row operands)) wide as_wide

  -- the elements of what stands for an operand are those of the piece of its row
  elements_of-operand : (operand : Operand) → Is operand
      → elements_of code.field (operand_payload code block piece (payload_in code pattern block piece) link operand) ≡ elements_in code.field piece (row operand)
  elements_of-operand operand is_operand = by (leaves_source code.net link) is_operand.source_row
    where
      by : (leaves : Bool) → (leaves ≡ true → operand.from < code.rate)
          → elements_of code.field (if leaves then piece_of_row (row_of block operand.from) piece else payload_in code pattern block piece operand.from)
          ≡ elements_in code.field piece (if leaves then row_at (block_elements code block) operand.from else value_in code pattern (block_elements code block) operand.from)
      by true below =
          elements_of-piece code.field piece (row_of block operand.from)
          ∙ ap (elements_in code.field piece) (sym (row_at-block_elements code block operand.from (below refl)))
      by false below = elements_of-piece_of_row code.field piece (value_in code pattern (block_elements code block) operand.from)

  -- an operand that isn't live stands for zeros
  dead_row : (operand : Operand) → reads_live_in code pattern link operand ≡ false → row operand ≡ zero_row (row_width code.field)
  dead_row operand dead =
      let parts = or_parts _ _ dead in
      ap (λ leaves. if leaves then row_at (block_elements code block) operand.from else value_in code pattern (block_elements code block) operand.from) parts.0
      ∙ value-dead code.code.draft (failed_links code.net.patterns pattern) (block_elements code block) operand.from parts.1 ∙ ap zero_row wide

  -- a live link doesn't fail
  live-whole : is_live_in code pattern link ≡ true → is_failed_in code.net.patterns pattern link ≡ false
  live-whole live = elim (cases_Bool (is_failed_in code.net.patterns pattern link)) [
    | inl fails ↦ absurd (true≢false (sym live ∙ is_live_in-failed code pattern link fails))
    | inr whole ↦ whole
  ]

  -- the value of a link that doesn't fail
  value-sum : is_failed_in code.net.patterns pattern link ≡ false
      → value_in code pattern (block_elements code block) link ≡ combination code.field (row_width code.field) (map (λ operand. operand.times) operands) (map row operands)
  value-sum whole =
      value-equation code.code.draft (failed_links code.net.patterns pattern) (block_elements code block) link
      ∙ rw whole refl ∙ ap (λ (n : ℕ). combination code.field n (map (λ operand. operand.times) operands) (map row operands)) wide

  -- so a link that carries a row, and is live, has that row of the block as its payload
  pub payload-row : (from : ℕ) → CarriesRow code link from → is_live_in code pattern link ≡ true
      → payload_in code pattern block piece link ≡ piece_of_row (row_of block from) piece
  payload-row from carries live =
      let field = code.field in
      let alone : Operand = record { from = from; times = 1 } in
      let below : from < code.rate = (All-head Is alone [] (subst (All Is) carries.alone all)).source_row carries.leaves in
      let within = row_lies_within block code.rate from is.size below in
      let elements = elements_at field block from in
      let are : IsRow field (row_width field) elements = elements_at-IsRow field block from is.bytes within in
      let standing : row alone ≡ elements =
      ap (λ leaves. if leaves then row_at (block_elements code block) from else value_in code pattern (block_elements code block) from) carries.leaves
      ∙ row_at-block_elements code block from below in
      let valued : value_in code pattern (block_elements code block) link ≡ elements =
      value-sum (live-whole live)
      ∙ ap (λ (operands : List Operand). combination field (row_width field) (map (λ operand. operand.times) operands) (map row operands)) carries.alone
      ∙ ap (λ (r : List ℕ). combination field (row_width field) (1 ∷ []) (r ∷ [])) standing
      ∙ combination-one field (row_width field) elements are.width are.elements in
      ap (λ (v : List ℕ). piece_of_row (bytes_of_row field v) piece) valued
      ∙ ap (λ (bytes : List ℕ). piece_of_row bytes piece) (row_of-back field block from is.bytes within)

  -- what stands for the operands, as rows of elements of a piece
  abbrev element_row : Operand → List ℕ
  element_row operand = elements_of code.field (operand_payload code block piece (payload_in code pattern block piece) link operand)

  abbrev piece_rows : List (List ℕ)
  piece_rows = map (take (piece_width code.field)) (map (drop (piece * piece_width code.field)) (map row operands))

  element_rows : map element_row operands ≡ piece_rows
  element_rows =
      map-agree element_row (λ operand. elements_in code.field piece (row operand)) Is elements_of-operand operands all
      ∙ sym (ap (map (take (piece_width code.field))) (map-map (drop (piece * piece_width code.field)) row operands)
      ∙ map-map (take (piece_width code.field)) (λ operand. drop (piece * piece_width code.field) (row operand)) operands)

  -- those of operands that aren't live are zeros
  zeros : All (λ operand. reads_live_in code pattern link operand ≡ false → element_row operand ≡ zero_row (piece_width code.field)) operands
  zeros =
      All-weaker Is (λ operand. reads_live_in code pattern link operand ≡ false → element_row operand ≡ zero_row (piece_width code.field))
      (λ operand is_operand dead. elements_of-operand operand is_operand ∙ ap (elements_in code.field piece) (dead_row operand dead) ∙ elements_in-zero_row code.field piece low)
      operands all

  -- the payload of a live link is the sum over its live operands of what stands for them
  pub payload-sum : is_live_in code pattern link ≡ true
      → payload_in code pattern block piece link
      ≡ sum_of code.field (live_operands code pattern link) (operand_payload code block piece (payload_in code pattern block piece) link)
  payload-sum live =
      let field = code.field in
      let times = map (λ (operand : Operand). operand.times) operands in
      let are : AreRows field (piece_width field) (map element_row operands) =
      subst (AreRows field (piece_width field)) (sym element_rows) (AreRows-piece field piece (map row operands) low rows) in
      piece_of_row-bytes field piece (value_in code pattern (block_elements code block) link)
      ∙ ap (λ (v : List ℕ). bytes_of_row field (elements_in field piece v)) (value-sum (live-whole live))
      ∙ ap (bytes_of_row field) (elements_in-combination field piece times (map row operands) low rows)
      ∙ ap (λ (rs : List (List ℕ)). bytes_of_row field (combination field (piece_width field) times rs)) (sym element_rows)
      ∙ ap (bytes_of_row field) (sym (combination-passing field (piece_width field) (reads_live_in code pattern link) (λ operand. operand.times) element_row operands (All-weaker Is (λ operand. operand.times < size_of field) (λ operand is_operand. is_operand.coefficient) operands all) are zeros))

-- sums of which each operand stands for the same are the same
pub sum_of-agree : (field : FieldKind) (operands : List Operand) (f g : Operand → List ℕ) → All (λ operand. f operand ≡ g operand) operands → sum_of field operands f ≡ sum_of field operands g
sum_of-agree field operands f g same =
    ap (λ (rows : List (List ℕ)). bytes_of_row field (combination field (piece_width field) (map (λ (operand : Operand). operand.times) operands) rows))
    (map-agree (λ (operand : Operand). elements_of field (f operand)) (λ (operand : Operand). elements_of field (g operand)) (λ operand. f operand ≡ g operand) (λ operand is. ap (elements_of field) is) operands same)
