-- The links that fail in the patterns of a network.
use Rattle.std.specs.Prelude.{◌≡◌, ◌<◌, ◌&&◌, ◌==◌, ℕ, nat_lt, zero, suc, codes, Bool, true, false, List, [], ◌∷◌, length, replicate, slice_get, slice_index, slice_index_or, Some}
use Rattle.std.specs.List.{list_all}
use Rattle.std.specs.Option.{option_map_or}
use Rattle.std.specs.Str.{bytes_eq}
use Rattle.std.proofs.Common.{refl, sym, ◌∙◌, ap, cond}
use Rattle.std.proofs.lemmas.Bool.{and_parts, eqb-true, ltb-true}
use Rattle.std.proofs.lemmas.List.{nil_from_length}
use Rattle.std.proofs.lemmas.List.Sums.{AllPass-from_list_all}
use Rattle.net_model.specs.Failed.{failed_links}
use Rattle.net_model.specs.Lists.{is_among}
use Rattle.net_model.specs.Network.{is_listed_pattern, are_patterns}
use Rattle.net_model.specs.Renumbering.{AreMarked}
use Rattle.net_model.specs.declared.Pattern.{Pattern}

-- the links of a pattern are below the number of links
pub failed_below : (patterns : List Pattern) (count pattern : ℕ) → are_patterns count patterns ≡ true → list_all (λ link. nat_lt link count) (failed_links patterns pattern) ≡ true
failed_below [] count pattern are = refl
failed_below (none ∷ listed) count zero are =
    let first = (and_parts (bytes_eq none.name (codes "none") && (length none.links == 0)) (list_all (is_listed_pattern count) listed) are).0 in
    let empty = (and_parts (bytes_eq none.name (codes "none")) (length none.links == 0) first).1 in
    ap (list_all (λ link. nat_lt link count)) (nil_from_length none.links (eqb-true _ _ empty))
failed_below (none ∷ listed) count (suc pattern) are =
    listed_below listed pattern (and_parts (bytes_eq none.name (codes "none") && (length none.links == 0)) (list_all (is_listed_pattern count) listed) are).1
  where
    listed_below : (listed : List Pattern) (pattern : ℕ) → list_all (is_listed_pattern count) listed ≡ true → list_all (λ link. nat_lt link count) (failed_links listed pattern) ≡ true
    listed_below [] pattern all = refl
    listed_below (one ∷ listed) zero all = (and_parts _ _ (and_parts _ _ all).0).1
    listed_below (one ∷ listed) (suc pattern) all = listed_below listed pattern (and_parts _ _ all).1

-- the links of the pattern that stands at a place are those that fail in it
pub failed_links-at : (patterns : List Pattern) (pattern : ℕ) (p : Pattern) (links : List ℕ) → slice_get patterns pattern ≡ Some p → links ≡ p.links → failed_links patterns pattern ≡ links
failed_links-at patterns pattern p links at is = ap (λ found. option_map_or (λ one. one.links) found []) at ∙ sym is

-- so each of them is below that number
pub failed_within : (patterns : List Pattern) (count pattern : ℕ) (p : Pattern) (links : List ℕ) (place : ℕ) → are_patterns count patterns ≡ true → slice_get patterns pattern ≡ Some p → links ≡ p.links
    → place < length links → slice_index links place < count
failed_within patterns count pattern p links place are at is within =
    ltb-true _ _ (AllPass-from_list_all (λ link. nat_lt link count) links
    (sym (ap (list_all (λ link. nat_lt link count)) (failed_links-at patterns pattern p links at is)) ∙ failed_below patterns count pattern are) place 0 within)

-- marks of which none was there are on the links marked, and on no other
pub marked-from_none : (links : List ℕ) (count : ℕ) (marks : List Bool) → AreMarked links true (replicate count false) marks → (link : ℕ) → slice_index_or marks link false ≡ is_among links link
marked-from_none links count marks are link =
    are.each link ∙ ap (λ (before : Bool). cond (is_among links link) true before) (none count link) ∙ same (is_among links link)
  where
    none : (count link : ℕ) → slice_index_or (replicate count false) link false ≡ false
    none zero link = refl
    none (suc count) zero = refl
    none (suc count) (suc link) = none count link

    same : (marked : Bool) → cond marked true false ≡ marked
    same true = refl
    same false = refl
