-- Items that were written, and one more.
use Rattle.std.proofs.Common.{◌≡◌, ℕ, ◌+◌, ◌<◌, true, ◌&&◌, List, [], ◌∷◌, ◌++◌, length, map, get_or, take, ltb, refl, sym, ap, ◌∙◌, append_assoc}
use Rattle.std.specs.List.{concat, flat_map, list_all}
use Rattle.std.proofs.lemmas.Bool.{and_parts, and_from}
use Rattle.std.proofs.lemmas.List.{take_more, map_push, append-nil}
use Rattle.std.proofs.lemmas.List.Concat.{flat_map-append}
use Rattle.std.proofs.lemmas.List.Folds.{concat-append}
use Rattle.gf_tables.specs.Product.{size_of}
use Rattle.gf_tables.specs.declared.kind.FieldKind.{FieldKind}
use Rattle.net_model.specs.declared.Link.{Link}
use Rattle.net_model.specs.declared.net.Net.{Net}
use Rattle.node_program.specs.declared.Operand.{Operand}
use Rattle.node_program.specs.declared.Decoder.{Decoder}
use Rattle.node_program.specs.Code.{are_operands_of, are_decoders, is_source_of}
use Rattle.code_items.specs.Items.{Item}
use Rattle.code_items.specs.Written.{are_elements, has_elements}

module _ {X : Type 0} (xs : List X) (i : ℕ) (d : X) (before : List ℕ) where
  -- one more item
  pub one_item_more : (f : X → Item) → i < length xs → (before ++ concat (map f (take i xs))) ++ f (get_or xs i d) ≡ before ++ concat (map f (take (i + 1) xs))
  one_item_more f within =
      append_assoc before (concat (map f (take i xs))) (f (get_or xs i d))
      ∙ ap (λ items. before ++ items) (sym (ap concat (ap (map f) (take_more xs i d within) ∙ map_push f (take i xs) (get_or xs i d)) ∙ concat-append (map f (take i xs)) (f (get_or xs i d) ∷ [])
      ∙ ap (λ item. concat (map f (take i xs)) ++ item) (append-nil (f (get_or xs i d)))))

  -- the items of one more
  pub items_more : (f : X → List Item) → i < length xs → (before ++ concat (flat_map f (take i xs))) ++ concat (f (get_or xs i d)) ≡ before ++ concat (flat_map f (take (i + 1) xs))
  items_more f within =
      append_assoc before (concat (flat_map f (take i xs))) (concat (f (get_or xs i d)))
      ∙ ap (λ items. before ++ items) (sym (ap concat (ap (flat_map f) (take_more xs i d within) ∙ flat_map-append f (take i xs) (get_or xs i d ∷ []) ∙ ap (λ items. flat_map f (take i xs) ++ items) (append-nil (f (get_or xs i d))))
      ∙ concat-append (flat_map f (take i xs)) (f (get_or xs i d))))

-- the coefficients of a code's operands are elements
pub operands_fit : (net : Net) (rate : ℕ) (field : FieldKind) (links : List Link) (table : List (List Operand)) → are_operands_of net rate field links table ≡ true → list_all (are_elements field) table ≡ true
operands_fit net rate field [] [] fit = refl
operands_fit net rate field [] (operands ∷ table) fit = absurd cc
operands_fit net rate field (link ∷ links) [] fit = absurd cc
operands_fit net rate field (link ∷ links) (operands ∷ table) fit =
    let both = and_parts _ _ fit in
    and_from _ _ (one operands (and_parts _ _ both.0).1) (operands_fit net rate field links table both.1)
  where
    one : (operands : List Operand) → list_all (λ operand. is_source_of net rate link operand.from && ltb 0 operand.times && ltb operand.times (size_of field)) operands ≡ true → are_elements field operands ≡ true
    one [] all = refl
    one (operand ∷ operands) all =
        let both = and_parts _ _ all in
        and_from _ _ (and_parts _ _ both.0).1 (one operands both.1)

-- the entries of a code's decoders are elements
pub decoders_fit : (net : Net) (rate : ℕ) (field : FieldKind) (sinks : List ℕ) (decoders : List Decoder) → are_decoders net rate field sinks decoders ≡ true → list_all (has_elements field) decoders ≡ true
decoders_fit net rate field [] [] fit = refl
decoders_fit net rate field [] (decoder ∷ decoders) fit = absurd cc
decoders_fit net rate field (sink ∷ sinks) [] fit = absurd cc
decoders_fit net rate field (sink ∷ sinks) (decoder ∷ decoders) fit =
    let both = and_parts _ _ fit in
    and_from _ _ (and_parts _ _ both.0).1 (decoders_fit net rate field sinks decoders both.1)

-- the front of a file, piece by piece
pub front_joined : (out mark : List ℕ) (version field rate : ℕ) (node_count : Item) (nodes : List Item) (link_count : Item) (links : List Item) (source sink_count : Item) (sinks : List Item) (pattern_count : Item) (patterns : List Item)
    → (((((((((out ++ (mark ++ (version ∷ field ∷ rate ∷ []))) ++ node_count) ++ concat nodes) ++ link_count) ++ concat links) ++ source) ++ sink_count) ++ concat sinks) ++ pattern_count) ++ concat patterns
    ≡ out ++ concat (mark ∷ (version ∷ []) ∷ (field ∷ []) ∷ (rate ∷ []) ∷ node_count ∷ (nodes ++ (link_count ∷ (links ++ (source ∷ sink_count ∷ (sinks ++ (pattern_count ∷ patterns)))))))
front_joined out mark version field rate node_count nodes link_count links source sink_count sinks pattern_count patterns = simp (concat-append, append_assoc)
