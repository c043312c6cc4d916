-- The reader of what stands before the decoders.
use Rattle.std.specs.Prelude.{◌≡◌, ℕ, ◌<◌, true, List, [], ◌++◌, length}
use Rattle.std.specs.List.{concat, flat_map}
use Rattle.std.proofs.Common.{refl, sym, ap, ◌∙◌, append_assoc, append-nil}
use Rattle.std.proofs.lemmas.List.Folds.{concat-append}
use Rattle.gf_tables.specs.declared.kind.FieldKind.{FieldKind}
use Rattle.net_model.specs.Lists.{is_among}
use Rattle.net_model.specs.declared.net.Net.{Net}
use Rattle.node_program.specs.Code.{IsDraft}
use Rattle.node_program.specs.declared.Operand.{Operand}
use Rattle.code_items.specs.DraftParts.{DraftParts, draft_items, draft_items_in, draft_parts_at, draft_parts_in}
use Rattle.code_items.specs.Items.{byte_item, operand_list_items, operand_table_items, front_items}
use Rattle.code_items.specs.Reading.{has_field, operands_at_link}
use Rattle.code_items.specs.Spelling.{front_of, front_items_in}
use Rattle.code_items.proofs.PartLaws.{IsFrontRead-from_network, EachFits-from_operands_of_code}
use Rattle.code_items.proofs.PartReaders.{IsFrontRead, AreOperandsRead, concat-flat_map, mark_reader, front_reader, operands_reader}
use Rattle.code_items.proofs.Readers.{IsReader, EachFits, empty_reader, then_reader, same_reader, each_reader}

-- what the items say one by one
pub record AreDraftPartsRead (versions : List ℕ) (parts : DraftParts) : Type 0 where
  pub known : is_among versions parts.version ≡ true
  pub front : IsFrontRead parts.version parts.front
  pub operands : EachFits (AreOperandsRead parts.front) parts.front.links parts.operands

-- the operands as texts
abbrev operands_text : FieldKind → List (List Operand) → List ℕ
operands_text field operands = flat_map (λ operands. concat (operand_list_items field operands)) operands ++ []

-- the texts of the parts in a row
draft_text : (mark : List ℕ) (parts : DraftParts)
    → (mark ++ byte_item parts.version) ++ (concat (front_items_in parts.front) ++ operands_text parts.front.field parts.operands) ≡ concat (draft_items_in mark parts)
unfolding draft_items_in
draft_text mark parts =
    let field = parts.front.field in
    let front = front_items_in parts.front in
    append_assoc mark (byte_item parts.version) (concat front ++ operands_text field parts.operands)
    ∙ ap (λ (t : List ℕ). mark ++ (byte_item parts.version ++ t))
    (ap (λ (t : List ℕ). concat front ++ t)
    (append-nil (flat_map (λ operands. concat (operand_list_items field operands)) parts.operands) ∙ sym (concat-flat_map (operand_list_items field) parts.operands))
    ∙ sym (concat-append front (operand_table_items field parts.operands)))

-- what stands before the decoders
pub draft_parts_reader : (mark versions : List ℕ) → length mark ≡ 4 → ((v : ℕ) → is_among versions v ≡ true → v < 256)
    → IsReader (draft_parts_at mark versions) (λ parts. concat (draft_items_in mark parts)) (AreDraftPartsRead versions)
unfolding draft_parts_at
draft_parts_reader mark versions four small =
    same_reader
    (then_reader (λ (p : DraftParts). p.version) (mark_reader mark versions four small)
    (λ version. then_reader (λ (p : DraftParts). p.front) (front_reader version)
    (λ front. same_reader {spell' = λ p. operands_text p.front.field p.operands}
    (then_reader (λ (p : DraftParts). p.operands)
    (each_reader (operands_at_link front) (λ operands. concat (operand_list_items front.field operands)) (AreOperandsRead front) (operands_reader front) front.links)
    (λ operands. empty_reader (record { version = version; front = front; operands = operands }))
    (λ operands p fit more. ap (λ (p : DraftParts). p.operands) more))
    (λ p fit. ap (λ (q : DraftParts). operands_text q.front.field p.operands) (sym fit.1))
    (λ p fit. fit) (λ p fit. fit))
    (λ front p fit more. ap (λ (p : DraftParts). p.front) more.1))
    (λ version p fit more. ap (λ (p : DraftParts). p.version) more.1.1))
    (λ p fit. draft_text mark p)
    (λ p fit. record { known = fit.0; front = fit.1.0; operands = fit.1.1.0 })
    (λ p fit. (fit.known, (fit.front, (fit.operands, refl))))

module _ (mark : List ℕ) (versions : List ℕ) (version : ℕ) (net : Net) (rate : ℕ) (field : FieldKind) (operands : List (List Operand)) where
  -- what is said of a draft is spelled as the draft
  pub draft_items-in : concat (draft_items_in mark (draft_parts_in version net rate field operands)) ≡ concat (draft_items mark version net rate field operands)
  unfolding draft_items draft_items_in front_items front_items_in
  draft_items-in = refl

  -- what is said of a draft is read, in each version in which one over its field can stand
  pub AreDraftPartsRead-from_draft : is_among versions version ≡ true → has_field version field ≡ true → IsDraft net rate field operands → AreDraftPartsRead versions (draft_parts_in version net rate field operands)
  AreDraftPartsRead-from_draft known says_field draft = record {
    known = known;
    front = IsFrontRead-from_network version (front_of net rate field) says_field net.network draft.some_rate draft.low_rate draft.few_demands draft.link_order;
    operands = EachFits-from_operands_of_code net rate field net.links operands draft.low_rate net.network.few_links draft.link_operands;
  }
