-- What links carry, by the rows that their operands read, and how the rows of links are made one after another.
use Rattle.std.specs.Prelude.{◌≡◌, ℕ, ◌<◌, ◌≤◌, ◌+◌, ◌%◌, Bool, true, false, List, [], ◌∷◌, length, map, take, set, slice_index_or, if◌then◌else◌}
use Rattle.std.proofs.Common.{arith, refl, sym, ap, subst, ◌∙◌, get_or, inl, inr}
use Rattle.std.proofs.lemmas.Bool.{cases_lt}
use Rattle.std.proofs.lemmas.List.{get_or-map, get_or-set_other, get_or-set_same, get_or-take, length-set, length-take-le}
use Rattle.std.proofs.lemmas.Option.{unwrap_or-slice_get}
use Rattle.gf_tables.specs.declared.kind.FieldKind.{FieldKind}
use Rattle.item_list.proofs.Maps.{map-agree}
use Rattle.linear_algebra.specs.Elements.{elements_of}
use Rattle.linear_algebra.specs.Rows.{combination, zero_row}
use Rattle.net_model.specs.Lists.{is_among}
use Rattle.net_model.specs.Walks.{leaves_source}
use Rattle.net_model.specs.declared.net.Net.{Net}
use Rattle.node_program.proofs.OperandLaws.{operands_of_draft}
use Rattle.node_program.proofs.ValueLaws.{value-equation}
use Rattle.node_program.specs.Code.{IsDraft}
use Rattle.node_program.specs.Operands.{IsOperand}
use Rattle.node_program.specs.Value.{operands_at, row_at, value, width_of}
use Rattle.node_program.specs.declared.Operand.{Operand}
use Rattle.field_rows.proofs.ElementLaws.{length-elements_in}
use Rattle.link_rows.specs.LinkRows.{AreLinkRows, IsFailTable, row_read, row_sum}
use Rattle.field_rows.specs.Widths.{rows_in, width_in}

-- the width of rows of so many bytes
pub width_of-rows_in : (field : FieldKind) (bytes : ℕ) (block : List (List ℕ)) → bytes % 2 ≡ 0 → 0 < length block → length (get_or block 0 []) ≡ bytes
    → width_of (rows_in field block) ≡ width_in field bytes
width_of-rows_in field bytes [] even some long = absurd (omega arith)
width_of-rows_in field bytes (row ∷ block) even some long = length-elements_in field bytes row even long

module _ {net : Net} {rate : ℕ} {field : FieldKind} {operands : List (List Operand)} (draft : IsDraft net rate field operands)
    (failed : List ℕ) (block rows : List (List ℕ)) (link : ℕ) where
  -- what an operand reads
  read_value : length block ≡ rate → AreLinkRows net field operands failed (rows_in field block) link rows → (operand : Operand) → IsOperand net rate field link operand
      → (if leaves_source net link then row_at (rows_in field block) operand.from else value net field operands failed (rows_in field block) operand.from)
      ≡ elements_of field (row_read net block rows link operand)
  read_value many are operand is =
      elim (leaves_source net link) as (λ b. (leaves_source net link ≡ b) → (if b then row_at (rows_in field block) operand.from else value net field operands failed (rows_in field block) operand.from)
      ≡ elements_of field (slice_index_or (if b then block else rows) operand.from [])) [
        | true ↦ λ leaves.
            unwrap_or-slice_get (rows_in field block) operand.from []
            ∙ get_or-map (elements_of field) block operand.from [] [] (omega (arith, is.source_row leaves, many))
        | false ↦ λ inner. sym (are.value operand.from (is.earlier_link inner))
      ] refl

  -- what a link carries is the sum over its operands of the rows that they read
  pub row_sum-value : (width : ℕ) (fails : Bool) → length block ≡ rate → width_of (rows_in field block) ≡ width → fails ≡ is_among failed link
      → AreLinkRows net field operands failed (rows_in field block) link rows
      → row_sum net field operands width fails block rows link ≡ value net field operands failed (rows_in field block) link
  row_sum-value width fails many wide named are =
      let read : Operand → List ℕ = λ operand. elements_of field (row_read net block rows link operand) in
      let carried : Operand → List ℕ =
      λ operand. if leaves_source net link then row_at (rows_in field block) operand.from else value net field operands failed (rows_in field block) operand.from in
      let same : map carried (operands_at operands link) ≡ map read (operands_at operands link) =
      map-agree carried read (IsOperand net rate field link) (read_value many are) (operands_at operands link) (operands_of_draft draft link) in
      let narrow : ℕ → Bool → List (List ℕ) → List ℕ = λ n test others.
      if test then zero_row n else combination field n (map (λ operand. operand.times) (operands_at operands link)) others in
      sym (value-equation draft failed (rows_in field block) link
      ∙ ap (λ (others : List (List ℕ)). narrow (width_of (rows_in field block)) (is_among failed link) others) same
      ∙ ap (λ (n : ℕ). narrow n (is_among failed link) (map read (operands_at operands link))) wide
      ∙ ap (λ (test : Bool). narrow width test (map read (operands_at operands link))) (sym named))

-- so many rows, of which the first are what these links carry
pub record AreFilled (net : Net) (field : FieldKind) (operands : List (List Operand)) (fails : List Bool) (block : List (List ℕ)) (links : ℕ) (rows : List (List ℕ)) : Type 0 where
  pub count : length rows ≡ length net.links
  pub value : (failed : List ℕ) → IsFailTable failed (length net.links) fails → (e : ℕ) → e < links
      → elements_of field (slice_index_or rows e []) ≡ value net field operands failed block e

module _ (net : Net) (field : FieldKind) (operands : List (List Operand)) (fails : List Bool) (block : List (List ℕ)) where
  -- the rows before a link
  pub filled_before : (links : ℕ) (rows : List (List ℕ)) → links ≤ length net.links → AreFilled net field operands fails block links rows
      → (failed : List ℕ) → IsFailTable failed (length net.links) fails → AreLinkRows net field operands failed block links (take links rows)
  filled_before links rows few are failed table = record {
    count = length-take-le links rows (omega (arith, few, are.count));
    value = λ e below. ap (elements_of field) (get_or-take links rows e [] below) ∙ are.value failed table e below;
  }

  -- one more row is written
  pub filled_more : (links : ℕ) (rows more : List (List ℕ)) (row : List ℕ) → links < length net.links → AreFilled net field operands fails block links rows
      → more ≡ set rows links row
      → ((failed : List ℕ) → IsFailTable failed (length net.links) fails → elements_of field row ≡ value net field operands failed block links)
      → AreFilled net field operands fails block (links + 1) more
  filled_more links rows more row within are written is =
      let Rows : List (List ℕ) → Type 0 = AreFilled net field operands fails block (links + 1) in
      subst Rows (sym written) (record {
        count = length-set rows links row ∙ are.count;
        value = λ failed table e below. elim (cases_lt e links) [
          | inl earlier ↦
              ap (elements_of field) (get_or-set_other rows links e row [] (λ same. omega (arith, same, earlier))) ∙ are.value failed table e earlier
          | inr last ↦
              let this : links ≡ e = omega (arith, below, last) in
              let At : ℕ → Type 0 = λ n. elements_of field (get_or (set rows links row) n []) ≡ value net field operands failed block n in
              subst At this (ap (elements_of field) (get_or-set_same rows links row [] (omega (arith, within, are.count))) ∙ is failed table)
        ];
      })
