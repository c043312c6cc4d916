-- What stands for one more demand in version 2.
use Rattle.std.proofs.Common.{◌≡◌, ℕ, zero, suc, ◌+◌, ◌<◌, List, [], ◌∷◌, ◌++◌, length, get_or, take, refl, sym, ap, ◌∙◌, append_assoc, arith}
use Rattle.std.specs.List.{concat}
use Rattle.std.proofs.lemmas.List.{take_more, append-nil}
use Rattle.std.proofs.lemmas.List.Folds.{concat-append}
use Rattle.gf_tables.specs.declared.kind.FieldKind.{FieldKind}
use Rattle.node_program.specs.declared.Decoder.{Decoder}
use Rattle.code_items.specs.Items.{demand_items, shared_table_items}
use Rattle.code_items.specs.Room.{size_of_items}
use Rattle.code_items.specs.Sharing.{same_of, sames_after}
use Rattle.code_items.proofs.Sizes.{size-append}

-- the items of a last demand
shared_table-push : (field : FieldKind) (earlier decoders : List Decoder) (last : Decoder)
    → shared_table_items field earlier (decoders ++ last ∷ []) ≡ shared_table_items field earlier decoders ++ demand_items field (same_of (earlier ++ decoders) last) last
unfolding shared_table_items
shared_table-push field earlier [] last =
    append-nil (demand_items field (same_of earlier last) last) ∙ ap (λ (before : List Decoder). demand_items field (same_of before last) last) (sym (append-nil earlier))
shared_table-push field earlier (decoder ∷ decoders) last =
    let first = demand_items field (same_of earlier decoder) decoder in
    let later = shared_table_items field (earlier ++ decoder ∷ []) decoders in
    ap (λ items. first ++ items) (shared_table-push field (earlier ++ decoder ∷ []) decoders last)
    ∙ ap (λ (before : List Decoder). first ++ (later ++ demand_items field (same_of before last) last)) (append_assoc earlier (decoder ∷ []) decoders)
    ∙ sym (append_assoc first later (demand_items field (same_of (earlier ++ decoder ∷ decoders) last) last))

-- the same of a last demand
pub sames_after-push : (earlier decoders : List Decoder) (last : Decoder) → sames_after earlier (decoders ++ last ∷ []) ≡ sames_after earlier decoders ++ same_of (earlier ++ decoders) last ∷ []
sames_after-push earlier [] last = ap (λ (before : List Decoder). same_of before last ∷ []) (sym (append-nil earlier))
sames_after-push earlier (decoder ∷ decoders) last =
    ap (λ sames. same_of earlier decoder ∷ sames) (sames_after-push (earlier ++ decoder ∷ []) decoders last
    ∙ ap (λ (before : List Decoder). sames_after (earlier ++ decoder ∷ []) decoders ++ same_of before last ∷ []) (append_assoc earlier (decoder ∷ []) decoders))

-- the same of a demand
pub same-at : (earlier decoders : List Decoder) (demand : ℕ) (d : Decoder) → demand < length decoders → get_or (sames_after earlier decoders) demand 0 ≡ same_of (earlier ++ take demand decoders) (get_or decoders demand d)
same-at earlier [] demand d within = absurd (omega arith)
same-at earlier (decoder ∷ decoders) zero d within = ap (λ (before : List Decoder). same_of before decoder) (sym (append-nil earlier))
same-at earlier (decoder ∷ decoders) (suc demand) d within =
    same-at (earlier ++ decoder ∷ []) decoders demand d (omega arith)
    ∙ ap (λ (before : List Decoder). same_of before (get_or decoders demand d)) (append_assoc earlier (decoder ∷ []) (take demand decoders))

-- each demand has a same
pub sames-count : (earlier decoders : List Decoder) → length (sames_after earlier decoders) ≡ length decoders
sames-count earlier [] = refl
sames-count earlier (decoder ∷ decoders) = ap suc (sames-count (earlier ++ decoder ∷ []) decoders)

module _ (field : FieldKind) (decoders : List Decoder) (demand : ℕ) (d : Decoder) where
  -- the items up to a demand
  shared-more : demand < length decoders → shared_table_items field [] (take (demand + 1) decoders)
      ≡ shared_table_items field [] (take demand decoders) ++ demand_items field (get_or (sames_after [] decoders) demand 0) (get_or decoders demand d)
  shared-more within =
      ap (shared_table_items field []) (take_more decoders demand d within) ∙ shared_table-push field [] (take demand decoders) (get_or decoders demand d)
      ∙ ap (λ same. shared_table_items field [] (take demand decoders) ++ demand_items field same (get_or decoders demand d)) (sym (same-at [] decoders demand d within))

  -- their bytes
  pub shared_items_more : (before : List ℕ) → demand < length decoders
      → (before ++ concat (shared_table_items field [] (take demand decoders))) ++ concat (demand_items field (get_or (sames_after [] decoders) demand 0) (get_or decoders demand d))
      ≡ before ++ concat (shared_table_items field [] (take (demand + 1) decoders))
  shared_items_more before within =
      let table = shared_table_items field [] (take demand decoders) in
      let items = demand_items field (get_or (sames_after [] decoders) demand 0) (get_or decoders demand d) in
      append_assoc before (concat table) (concat items) ∙ ap (λ bytes. before ++ bytes) (sym (concat-append table items) ∙ ap concat (sym (shared-more within)))

  -- how many bytes these are
  pub shared-size-more : demand < length decoders
      → size_of_items (shared_table_items field [] (take (demand + 1) decoders)) ≡ size_of_items (shared_table_items field [] (take demand decoders)) + size_of_items (demand_items field (get_or (sames_after [] decoders) demand 0) (get_or decoders demand d))
  shared-size-more within = ap size_of_items (shared-more within) ∙ size-append (shared_table_items field [] (take demand decoders)) (demand_items field (get_or (sames_after [] decoders) demand 0) (get_or decoders demand d))
