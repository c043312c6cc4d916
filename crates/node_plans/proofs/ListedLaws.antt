-- How the live links at each node are listed, one after another.
use Rattle.std.specs.Prelude.{◌≡◌, ℕ, ◌+◌, ◌<◌, ◌≤◌, ◌==◌, ◌&&◌, Bool, true, false, cond, List, [], ◌∷◌, ◌++◌, Vec, length, slice_index_or, slice_set}
use Rattle.std.specs.Global.{Global}
use Rattle.std.specs.List.{range_with_len}
use Rattle.std.proofs.Common.{refl, sym, ◌∙◌, ap, subst, arith, get_or, inl, inr}
use Rattle.std.proofs.lemmas.Bool.{cases_eq, eq-eqb, ne_eqb}
use Rattle.std.proofs.lemmas.List.{append-nil, get_or-map, get_or-set_other, get_or-set_same, length-map, length-set, map-set}
use Rattle.std.proofs.lemmas.List.FromFn.{length-range_with_len}
use Rattle.item_list.proofs.Ranges.{filter-range_more}
use Rattle.node_plans.proofs.ListLaws.{length-filter-le}
use Rattle.node_plans.specs.Listed.{AreEnds, ending_at, is_live_by, items_of}

-- no list is longer than there are links before it
pub length-ending_at : (live : List Bool) (end : ℕ → ℕ) (bound node : ℕ) → length (ending_at live end bound node) ≤ bound
length-ending_at live end bound node =
    omega (arith, length-filter-le (λ link. is_live_by live link && (end link == node)) (range_with_len 0 bound), length-range_with_len 0 bound)

-- what ends at a node, and one link more
ending_at-more : (live : List Bool) (end : ℕ → ℕ) (bound node : ℕ)
    → ending_at live end (bound + 1) node ≡ ending_at live end bound node ++ cond (is_live_by live bound && (end bound == node)) (bound ∷ []) []
ending_at-more live end bound node = filter-range_more (λ link. is_live_by live link && (end link == node)) bound

-- a link that isn't live isn't listed
pub AreEnds-dead : (live : List Bool) (end : ℕ → ℕ) (nodes bound : ℕ) (lists : List (List ℕ)) → AreEnds live end nodes bound lists
    → is_live_by live bound ≡ false → AreEnds live end nodes (bound + 1) lists
AreEnds-dead live end nodes bound lists are dead = record {
  count = are.count;
  each = λ node within.
      are.each node within
      ∙ sym (ending_at-more live end bound node ∙ rw dead (append-nil (ending_at live end bound node)));
}

-- as many lists
pub length-items_of : (lists : List (Vec ℕ Global)) → length (items_of lists) ≡ length lists
length-items_of lists = length-map lists (λ (list : Vec ℕ Global). list.items)

-- a list that is read
pub items_of-read : (lists : List (Vec ℕ Global)) (place : ℕ) (found : Vec ℕ Global) → place < length lists → found ≡ slice_index_or lists place found
    → found.items ≡ slice_index_or (items_of lists) place []
items_of-read lists place found within read =
    let items : Vec ℕ Global → List ℕ = λ list. list.items in
    ap items read ∙ sym (get_or-map items lists place found [] within)

module _ (live : List Bool) (end : ℕ → ℕ) (nodes bound : ℕ) (lists : List (Vec ℕ Global)) (are : AreEnds live end nodes bound (items_of lists))
    (node : ℕ) (within : node < nodes) (found : Vec ℕ Global) (read : found ≡ slice_index_or lists node found) where
  inside : node < length lists
  inside = omega (arith, are.count, length-items_of lists)

  -- the list of a node has what ends there
  pub AreEnds-read : found.items ≡ ending_at live end bound node
  AreEnds-read = items_of-read lists node found inside read ∙ are.each node within

  -- a live link is added to the list of its end
  pub AreEnds-live : (list : Vec ℕ Global) → is_live_by live bound ≡ true → node ≡ end bound → list.items ≡ found.items ++ bound ∷ []
      → AreEnds live end nodes (bound + 1) (items_of (slice_set lists node list))
  AreEnds-live list alive at more =
      let items : Vec ℕ Global → List ℕ = λ list. list.items in
      let there : node < length (items_of lists) = omega (arith, are.count) in
      let set : items_of (slice_set lists node list) ≡ slice_set (items_of lists) node list.items = map-set items lists node list in
      let Are : List (List ℕ) → Type 0 = λ lists. AreEnds live end nodes (bound + 1) lists in
      subst Are (sym set) (record {
        count = length-set (items_of lists) node list.items ∙ are.count;
        each = λ other below. elim (cases_eq node other) [
          | inl same ↦
              let At : ℕ → Type 0 = λ other. slice_index_or (slice_set (items_of lists) node list.items) other [] ≡ ending_at live end (bound + 1) other in
              let ends : (end bound == node) ≡ true = eq-eqb (end bound) node (sym at) in
              subst At same
              (get_or-set_same (items_of lists) node list.items [] there ∙ more ∙ ap (λ (links : List ℕ). links ++ bound ∷ []) AreEnds-read
              ∙ sym (ending_at-more live end bound node ∙ rw (alive, ends) refl))
          | inr apart ↦
              let ends : (end bound == other) ≡ false = ne_eqb (end bound) other (λ same. apart (at ∙ same)) in
              get_or-set_other (items_of lists) node other list.items [] (λ same. apart (sym same)) ∙ are.each other below
              ∙ sym (ending_at-more live end bound other ∙ rw (alive, ends) (append-nil (ending_at live end bound other)))
        ];
      })

-- the places of the links before one, and of that one
pub places-more : (live : List Bool) (end : ℕ → ℕ) (bound place : ℕ) (places : List ℕ) → bound < length places
    → ((link : ℕ) → link < bound → is_live_by live link ≡ true → get_or places link 0 ≡ length (ending_at live end link (end link)))
    → place ≡ length (ending_at live end bound (end bound))
    → (link : ℕ) → link < bound + 1 → is_live_by live link ≡ true → get_or (slice_set places bound place) link 0 ≡ length (ending_at live end link (end link))
places-more live end bound place places inside before here link below alive = elim (cases_eq bound link) [
  | inl same ↦
      let At : ℕ → Type 0 = λ link. get_or (slice_set places bound place) link 0 ≡ length (ending_at live end link (end link)) in
      subst At same (get_or-set_same places bound place 0 inside ∙ here)
  | inr apart ↦ get_or-set_other places bound link place 0 (λ same. apart (sym same)) ∙ before link (omega arith) alive
]

-- the places of the links before one that isn't live
pub places-dead : (live : List Bool) (end : ℕ → ℕ) (bound : ℕ) (places : List ℕ)
    → ((link : ℕ) → link < bound → is_live_by live link ≡ true → get_or places link 0 ≡ length (ending_at live end link (end link)))
    → is_live_by live bound ≡ false
    → (link : ℕ) → link < bound + 1 → is_live_by live link ≡ true → get_or places link 0 ≡ length (ending_at live end link (end link))
places-dead live end bound places before dead link below alive = elim (cases_eq bound link) [
  | inl same ↦ let told : is_live_by live bound ≡ true = ap (is_live_by live) same ∙ alive in absurd (cc)
  | inr apart ↦ before link (omega arith) alive
]
