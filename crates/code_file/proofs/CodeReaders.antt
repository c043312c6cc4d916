-- The reader of all of a code file but its end.
use Rattle.std.specs.Prelude.{◌≡◌, ℕ, ◌<◌, ◌||◌, ◌==◌, false, true, List, [], ◌++◌}
use Rattle.std.specs.List.{concat}
use Rattle.std.proofs.Common.{refl, sym, ap, ◌∙◌, append_assoc, append-nil, arith, inl, inr}
use Rattle.std.proofs.lemmas.Bool.{eqb-true, or_cases}
use Rattle.std.proofs.lemmas.List.Folds.{concat-append}
use Rattle.net_model.specs.Lists.{is_among}
use Rattle.code_items.specs.DraftParts.{draft_items_in}
use Rattle.code_items.specs.Items.{Item, byte_item, operand_table_items, decoders_items}
use Rattle.code_items.specs.Spelling.{front_items_in}
use Rattle.code_items.proofs.DraftReaders.{AreDraftPartsRead, draft_parts_reader}
use Rattle.code_items.proofs.PartReaders.{AreDecodersRead, decoder_table_reader}
use Rattle.code_items.proofs.Readers.{IsReader, empty_reader, then_reader, same_reader}
use Rattle.code_file.specs.Items.{code_mark, code_versions}
use Rattle.code_file.specs.Reading.{Contents, contents_at, contents_with, draft_in}
use Rattle.code_file.specs.Spelling.{items_said, spelling_of}

-- what the items of a file say one by one
pub record AreContentsRead (contents : Contents) : Type 0 where
  pub draft : AreDraftPartsRead code_versions (draft_in contents)
  pub decoders : AreDecodersRead contents.version contents.front contents.decoders

-- a version fits a byte
small_version : (version : ℕ) → is_among code_versions version ≡ true → version < 256
small_version version known =
    elim (or_cases (1 == version) ((2 == version) || false) known) [
      | inl is ↦ omega (arith, eqb-true 1 version is)
      | inr later ↦ elim (or_cases (2 == version) false later) [
        | inl is ↦ omega (arith, eqb-true 2 version is)
        | inr none ↦ absurd cc
      ]
    ]

-- the texts of the parts in a row
contents_text : (contents : Contents)
    → concat (draft_items_in code_mark (draft_in contents)) ++ (concat (decoders_items contents.version contents.front.field contents.decoders) ++ []) ≡ spelling_of contents
unfolding draft_items_in items_said spelling_of
contents_text contents =
    let field = contents.front.field in
    let front = front_items_in contents.front in
    let table = operand_table_items field contents.operands in
    let decoders = decoders_items contents.version field contents.decoders in
    let before = draft_items_in code_mark (draft_in contents) in
    ap (λ (t : List ℕ). concat before ++ t) (append-nil (concat decoders))
    ∙ sym (concat-append before decoders)
    ∙ ap (λ (items : List Item). code_mark ++ (byte_item contents.version ++ concat items)) (append_assoc front table decoders)

-- all but the end of the file
pub contents_reader : IsReader contents_at spelling_of AreContentsRead
unfolding contents_at
contents_reader =
    same_reader
    (then_reader draft_in (draft_parts_reader code_mark code_versions refl small_version)
    (λ draft. then_reader (λ (c : Contents). c.decoders) (decoder_table_reader draft.version draft.front)
    (λ decoders. empty_reader (contents_with draft decoders))
    (λ decoders c fit more. ap (λ (c : Contents). c.decoders) more))
    (λ draft c fit more. ap draft_in more.1))
    (λ c fit. contents_text c)
    (λ c fit. record { draft = fit.0; decoders = fit.1.0 })
    (λ c fit. (fit.draft, (fit.decoders, refl)))
