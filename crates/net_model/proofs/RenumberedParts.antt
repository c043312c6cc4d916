-- Marks on links, and laws of the parts of a network whose links have new numbers.
use Rattle.std.specs.Prelude.{◌≡◌, ℕ, zero, suc, ◌+◌, ◌<◌, ◌≤◌, Bool, true, false, cond, ◌&&◌, ◌==◌, nat_eq, nat_lt, List, [], ◌∷◌, length, map, filter, slice_get, slice_index, unwrap_or}
use Rattle.std.specs.List.{list_all, list_any, range_with_len}
use Rattle.std.specs.Str.{bytes_eq}
use Rattle.std.proofs.Common.{Some, refl, sym, ◌∙◌, ap, subst, get_or, inl, inr, arith}
use Rattle.std.proofs.lemmas.Bool.{and_from, and_parts, or_from, or_parts, or_cases, or_left, not_from_false, not-true, eq-eqb, eqb-true, both_ways, ltb-true, lt-ltb, cases_order, cases_Bool, false_from_ne_true}
use Rattle.std.proofs.lemmas.List.{get_or-map, length-map, nil_from_length}
use Rattle.std.proofs.lemmas.Map.Made.{AllPairs-from_IsDistinct}
use Rattle.std.proofs.lemmas.Option.{slice_get-get_or, unwrap_or-slice_get}
use Rattle.std.proofs.lemmas.Slice.Eq.{bytes_eq-Decides}
use Rattle.item_list.proofs.Tests.{passes_at}
use Rattle.net_model.specs.Lists.{are_distinct, is_among, is_rising}
use Rattle.net_model.proofs.ListLaws.{IsDistinct-from_are_distinct, length-are_distinct}
use Rattle.net_model.specs.Name.{is_name}
use Rattle.net_model.specs.Network.{IsNetwork, are_names, are_patterns, is_link_among, is_listed_pattern}
use Rattle.net_model.proofs.RenumberingLaws.{length-renumbered_links}
use Rattle.net_model.specs.Renumbering.{HasEachOnce, old_number, renumbered_links, renumbered_pattern, renumbered_set}
use Rattle.net_model.specs.declared.Link.{Link}
use Rattle.net_model.specs.declared.Pattern.{Pattern}

-- a number of a list has a place in it
pub place_among : (numbers : List ℕ) (number : ℕ) → is_among numbers number ≡ true → (place : ℕ) × (place < length numbers) × (slice_index numbers place ≡ number)
place_among [] number among = absurd cc
place_among (one ∷ numbers) number among = elim (or_cases (one == number) (is_among numbers number) among) [
  | inl here ↦ (0, omega arith, eqb-true one number here)
  | inr later ↦ let found = place_among numbers number later in (suc found.0, omega (arith, found.1), found.2)
]

-- a number that isn't in a list differs from each of its numbers
is_new : (numbers : List ℕ) (number : ℕ) → is_among numbers number ≡ false → list_any (nat_eq number) numbers ≡ false
is_new [] number new = refl
is_new (one ∷ numbers) number new =
    let parts = or_parts _ _ new in
    or_from _ _ (false_from_ne_true _ (λ same. both_ways _ parts.0 (eq-eqb one number (sym (eqb-true number one same))))) (is_new numbers number parts.1)

-- each number below the bound is in the list
pub is_among-HasEachOnce : (bound : ℕ) (order : List ℕ) (link : ℕ) → HasEachOnce bound order → link < bound → is_among order link ≡ true
is_among-HasEachOnce bound order link once within = elim (cases_Bool (is_among order link)) [
  | inl among ↦ among
  | inr new ↦
      let more : suc (length order) ≤ bound = length-are_distinct (link ∷ order) bound (and_from _ _ (not_from_false _ (is_new order link new)) once.distinct) (and_from _ _ (lt-ltb link bound within) once.below) in
      absurd (omega (arith, once.whole))
]

module _ (p q : ℕ → Bool) where
  -- the numbers of a range that pass a test all pass another, where all of the range do
  pub list_all-filter_range : (start n : ℕ) → ((k : ℕ) → start ≤ k → k < start + n → q k ≡ true) → list_all q (filter p (range_with_len start n)) ≡ true
  list_all-filter_range start zero each = refl
  list_all-filter_range start (suc n) each =
      let rest : list_all q (filter p (range_with_len (start + 1) n)) ≡ true = list_all-filter_range (start + 1) n (λ k from below. each k (omega arith) (omega arith)) in
      by (filter p (range_with_len (start + 1) n)) (p start) (each start (omega arith) (omega arith)) rest
    where
      by : (later : List ℕ) (b : Bool) → q start ≡ true → list_all q later ≡ true → list_all q (cond b (start ∷ later) later) ≡ true
      by later true here all = and_from _ _ here all
      by later false here all = all

-- the numbers of a range that pass a test rise
pub is_rising-filter_range : (p : ℕ → Bool) (start n : ℕ) → is_rising (filter p (range_with_len start n)) ≡ true
is_rising-filter_range p start zero = refl
is_rising-filter_range p start (suc n) =
    by (filter p (range_with_len (start + 1) n)) (p start) (list_all-filter_range p (nat_lt start) (start + 1) n (λ k from below. lt-ltb start k (omega arith))) (is_rising-filter_range p (start + 1) n)
  where
    by : (later : List ℕ) (b : Bool) → list_all (nat_lt start) later ≡ true → is_rising later ≡ true → is_rising (cond b (start ∷ later) later) ≡ true
    by later true above rising = and_from _ _ above rising
    by later false above rising = rising

-- a number of a range that passes a test is among those that do
pub some-filter_range : (p : ℕ → Bool) (start n number : ℕ) → start ≤ number → number < start + n → p number ≡ true → 0 < length (filter p (range_with_len start n))
some-filter_range p start zero number from below passes = absurd (omega arith)
some-filter_range p start (suc n) number from below passes = elim (cases_Bool (p start)) [
  | inl here ↦ rw here (omega arith)
  | inr fails ↦
      let later : start + 1 ≤ number = elim (cases_order start number) [
        | inl same ↦ absurd (let told : p start ≡ true = ap p same ∙ passes in cc)
        | inr apart ↦ elim apart [ inl before ↦ omega arith | inr after ↦ absurd (omega arith) ]
      ] in
      rw fails (some-filter_range p (start + 1) n number later (omega arith) passes)
]

-- items of different numbers differ, so those of distinct numbers are distinct
module _ {X : Type 0} (same : X → X → Bool) (item : ℕ → X) (bound : ℕ) (apart : (i j : ℕ) → i < bound → j < bound → same (item i) (item j) ≡ true → i ≡ j) where
  none_same : (i : ℕ) (numbers : List ℕ) → i < bound → list_all (λ number. nat_lt number bound) numbers ≡ true → list_any (nat_eq i) numbers ≡ false → list_any (same (item i)) (map item numbers) ≡ false
  none_same i [] within below new = refl
  none_same i (j ∷ numbers) within below new =
      let others = or_parts _ _ new in
      let first = and_parts _ _ below in
      or_from _ _ (false_from_ne_true _ (λ equal. both_ways _ others.0 (eq-eqb i j (apart i j within (ltb-true j bound first.0) equal)))) (none_same i numbers within first.1 others.1)

  pub are_distinct-map : (numbers : List ℕ) → list_all (λ number. nat_lt number bound) numbers ≡ true → are_distinct nat_eq numbers ≡ true → are_distinct same (map item numbers) ≡ true
  are_distinct-map [] below distinct = refl
  are_distinct-map (i ∷ numbers) below distinct =
      let first = and_parts _ _ below in
      let new = and_parts _ _ distinct in
      and_from _ _ (not_from_false _ (none_same i numbers (ltb-true i bound first.0) first.1 (not-true _ new.0))) (are_distinct-map numbers first.1 new.1)

-- items of a list at numbers below its length pass what all of the list pass
pub list_all-at_numbers : {X : Type 0} (test : X → Bool) (xs : List X) (d : X) (numbers : List ℕ) → list_all test xs ≡ true → list_all (λ number. nat_lt number (length xs)) numbers ≡ true → list_all test (map (λ number. get_or xs number d) numbers) ≡ true
list_all-at_numbers test xs d [] all below = refl
list_all-at_numbers test xs d (number ∷ numbers) all below =
    let first = and_parts _ _ below in
    and_from _ _ (passes_at test xs number d all (ltb-true number (length xs) first.0)) (list_all-at_numbers test xs d numbers all first.1)

-- equal names stand at one place of a list of distinct names
names_apart : (names : List (List ℕ)) → are_distinct bytes_eq names ≡ true → (i j : ℕ) → i < length names → j < length names → bytes_eq (get_or names i []) (get_or names j []) ≡ true → i ≡ j
names_apart names distinct i j first second equal =
    let pairs = AllPairs-from_IsDistinct bytes_eq-Decides names (IsDistinct-from_are_distinct bytes_eq names distinct) in
    let same : get_or names i [] ≡ get_or names j [] = (bytes_eq-Decides (get_or names i []) (get_or names j [])).0 equal in
    elim (cases_order i j) [
      | inl is ↦ is
      | inr apart ↦ elim apart [ inl before ↦ absurd (pairs i j [] before second same) | inr after ↦ absurd (pairs j i [] after first (sym same)) ]
    ]

-- names in a new order are names
pub are_names-in_order : (names : List (List ℕ)) (order : List ℕ) → HasEachOnce (length names) order → are_names names ≡ true → are_names (map (λ number. get_or names number []) order) ≡ true
are_names-in_order names order once good =
    let parts = and_parts _ _ good in
    and_from _ _ (list_all-at_numbers is_name names [] order parts.0 once.below)
    (are_distinct-map bytes_eq (λ number. get_or names number []) (length names) (names_apart names parts.1) order once.below once.distinct)

-- the names of the links in a new order
pub name-renumbered_links : (links : List Link) (order : List ℕ) → map (λ link. link.name) (renumbered_links links order) ≡ map (λ number. get_or (map (λ link. link.name) links) number []) order
name-renumbered_links links [] = refl
name-renumbered_links links (number ∷ order) =
    ap (λ (name : List ℕ). name ∷ map (λ link. link.name) (renumbered_links links order)) (name_at links number)
    ∙ ap (λ (names : List (List ℕ)). get_or (map (λ link. link.name) links) number [] ∷ names) (name-renumbered_links links order)
  where
    name_at : (links : List Link) (number : ℕ) → (unwrap_or (slice_get links number) (record { name = []; tail = 0; head = 0 })).name ≡ get_or (map (λ link. link.name) links) number []
    name_at [] number = refl
    name_at (link ∷ links) zero = refl
    name_at (link ∷ links) (suc number) = name_at links number

-- the link at a place of a new order
pub slice_get-renumbered_links : (links : List Link) (order : List ℕ) (new : ℕ) → HasEachOnce (length links) order → new < length order → slice_get (renumbered_links links order) new ≡ slice_get links (old_number order new)
slice_get-renumbered_links links order new once within =
    let none : Link = record { name = []; tail = 0; head = 0 } in
    let link : ℕ → Link = λ old. unwrap_or (slice_get links old) none in
    let below : old_number order new < length links = ltb-true _ _ (passes_at (λ number. nat_lt number (length links)) order new 0 once.below within) in
    let inside : new < length (renumbered_links links order) = omega (arith, length-renumbered_links links once, once.whole) in
    slice_get-get_or (renumbered_links links order) new none inside
    ∙ ap Some (get_or-map link order new 0 none within ∙ unwrap_or-slice_get links (old_number order new) none)
    ∙ sym (slice_get-get_or links (old_number order new) none below)

-- the ends of the links in a new order
pub link_ends-renumbered_links : (links : List Link) (order : List ℕ) (nodes : ℕ) → HasEachOnce (length links) order → list_all (is_link_among nodes) links ≡ true → list_all (is_link_among nodes) (renumbered_links links order) ≡ true
link_ends-renumbered_links links order nodes once good =
    let none : Link = record { name = []; tail = 0; head = 0 } in
    let P : List Link → Type 0 = λ new. list_all (is_link_among nodes) new ≡ true in
    subst P (sym (links_at order)) (list_all-at_numbers (is_link_among nodes) links none order good once.below)
  where
    links_at : (order : List ℕ) → renumbered_links links order ≡ map (λ number. get_or links number (record { name = []; tail = 0; head = 0 })) order
    links_at [] = refl
    links_at (number ∷ order) =
        ap (λ (link : Link). link ∷ renumbered_links links order) (unwrap_or-slice_get links number (record { name = []; tail = 0; head = 0 }))
        ∙ ap (λ (later : List Link). get_or links number (record { name = []; tail = 0; head = 0 }) ∷ later) (links_at order)

-- a set without links
pub renumbered_set-empty : (order : List ℕ) → renumbered_set order [] ≡ []
renumbered_set-empty order = none 0 (length order)
  where
    none : (start n : ℕ) → filter (λ new. is_among [] (old_number order new)) (range_with_len start n) ≡ []
    none start zero = refl
    none start (suc n) = none (start + 1) n

-- a listed pattern with the new numbers of its links is a listed one
pub is_listed_pattern-renumbered : (bound : ℕ) (order : List ℕ) (pattern : Pattern) → HasEachOnce bound order → is_listed_pattern bound pattern ≡ true → is_listed_pattern bound (renumbered_pattern order pattern) ≡ true
is_listed_pattern-renumbered bound order pattern once good =
    let parts : (nat_lt 0 (length pattern.links) && is_rising pattern.links ≡ true) × (list_all (λ link. nat_lt link bound) pattern.links ≡ true) = and_parts _ _ good in
    let test : ℕ → Bool = λ new. is_among pattern.links (old_number order new) in
    let within : list_all (λ link. nat_lt link bound) (filter test (range_with_len 0 (length order))) ≡ true = list_all-filter_range test (λ link. nat_lt link bound) 0 (length order) (λ k from below. lt-ltb k bound (omega (arith, once.whole))) in
    and_from _ _ (and_from _ _ (lt-ltb 0 _ (some pattern.links (and_parts _ _ parts.0).0 parts.1)) (is_rising-filter_range test 0 (length order))) within
  where
    some : (links : List ℕ) → nat_lt 0 (length links) ≡ true → list_all (λ link. nat_lt link bound) links ≡ true → 0 < length (renumbered_set order links)
    some [] more within = absurd cc
    some (link ∷ links) more within =
        let found = place_among order link (is_among-HasEachOnce bound order link once (ltb-true link bound (and_parts _ _ within).0)) in
        some-filter_range (λ new. is_among (link ∷ links) (old_number order new)) 0 (length order) found.0 (omega arith) (omega (arith, found.1)) (or_left _ _ (eq-eqb link (old_number order found.0) (sym found.2)))

-- the patterns with the new numbers of their links are patterns
pub are_patterns-renumbered : (bound : ℕ) (order : List ℕ) (patterns : List Pattern) → HasEachOnce bound order → are_patterns bound patterns ≡ true → are_patterns bound (map (renumbered_pattern order) patterns) ≡ true
are_patterns-renumbered bound order [] once good = good
are_patterns-renumbered bound order (none ∷ listed) once good =
    let parts = and_parts _ _ good in
    let first = and_parts _ _ parts.0 in
    let empty : none.links ≡ [] = nil_from_length none.links (eqb-true _ _ first.1) in
    let no_links : length (renumbered_set order none.links) ≡ 0 = ap (λ (links : List ℕ). length (renumbered_set order links)) empty ∙ ap length (renumbered_set-empty order) in
    and_from _ _ (and_from _ _ first.0 (eq-eqb _ _ no_links)) (each listed parts.1)
  where
    each : (patterns : List Pattern) → list_all (is_listed_pattern bound) patterns ≡ true → list_all (is_listed_pattern bound) (map (renumbered_pattern order) patterns) ≡ true
    each [] good = refl
    each (pattern ∷ patterns) good =
        let parts = and_parts _ _ good in
        and_from _ _ (is_listed_pattern-renumbered bound order pattern once parts.0) (each patterns parts.1)

-- the names of the patterns stay
pub name-renumbered_pattern : (order : List ℕ) (patterns : List Pattern) → map (λ pattern. pattern.name) (map (renumbered_pattern order) patterns) ≡ map (λ pattern. pattern.name) patterns
name-renumbered_pattern order [] = refl
name-renumbered_pattern order (pattern ∷ patterns) = ap (λ (names : List (List ℕ)). pattern.name ∷ names) (name-renumbered_pattern order patterns)

-- a network whose links have new numbers is a network
pub IsNetwork-renumbered : (nodes : List (List ℕ)) (links : List Link) (source : ℕ) (sinks : List ℕ) (patterns : List Pattern) (order : List ℕ) → IsNetwork nodes links source sinks patterns → HasEachOnce (length links) order
    → IsNetwork nodes (renumbered_links links order) source sinks (map (renumbered_pattern order) patterns)
IsNetwork-renumbered nodes links source sinks patterns order network once =
    let name_of : Link → List ℕ = λ link. link.name in
    let Names : List (List ℕ) → Type 0 = λ names. are_names names ≡ true in
    let Once : ℕ → Type 0 = λ bound. HasEachOnce bound order in
    let Patterns : ℕ → Type 0 = λ bound. are_patterns bound (map (renumbered_pattern order) patterns) ≡ true in
    let size : length (renumbered_links links order) ≡ length links = length-renumbered_links links once in
    let count : length (map (renumbered_pattern order) patterns) ≡ length patterns = length-map patterns (renumbered_pattern order) in
    let named : HasEachOnce (length (map name_of links)) order = subst Once (sym (length-map links name_of)) once in
    record {
      node_names = network.node_names;
      link_names = subst Names (sym (name-renumbered_links links order)) (are_names-in_order (map name_of links) order named network.link_names);
      link_ends = link_ends-renumbered_links links order (length nodes) once network.link_ends;
      source_node = network.source_node;
      some_sink = network.some_sink;
      sink_nodes = network.sink_nodes;
      distinct_sinks = network.distinct_sinks;
      pattern_names = subst Names (sym (name-renumbered_pattern order patterns)) network.pattern_names;
      pattern_links = subst Patterns (sym size) (are_patterns-renumbered (length links) order patterns once network.pattern_links);
      few_nodes = network.few_nodes;
      few_links = omega (arith, size, network.few_links);
      few_patterns = omega (arith, count, network.few_patterns);
    }
