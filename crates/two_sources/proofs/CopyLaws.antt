-- The order in which each link keeps its number changes no part of a network.
use Rattle.std.specs.Prelude.{◌≡◌, ℕ, zero, suc, ◌+◌, ◌<◌, ◌≤◌, ◌&&◌, ◌==◌, Bool, true, filter, nat_lt, None, List, [], ◌∷◌, length, map, slice_get, unwrap_or, codes}
use Rattle.std.specs.List.{list_all, range_with_len}
use Rattle.std.specs.List.Sorted.{IsStrictlyIncreasing}
use Rattle.std.specs.Str.{bytes_eq}
use Rattle.std.proofs.Common.{arith, refl, sym, ap, ◌∙◌}
use Rattle.std.proofs.lemmas.Bool.{and_parts, eqb-true, ltb-true}
use Rattle.std.proofs.lemmas.List.{nil_from_length}
use Rattle.std.proofs.lemmas.List.FromFn.{fill_by_all, get_or-range_with_len, length-range_with_len}
use Rattle.std.proofs.lemmas.List.Sorted.{IsPermutation-refl}
use Rattle.std.proofs.lemmas.Option.{unwrap_or-slice_get}
use Rattle.item_list.proofs.Tests.{passes_at}
use Rattle.net_model.proofs.ListLaws.{is_among-range_with_len, list_all-from_is_among}
use Rattle.net_model.proofs.RenumberedParts.{renumbered_set-empty}
use Rattle.net_model.proofs.RisingLaws.{are_distinct-from_rising, is_rising-from_places, rising-below}
use Rattle.net_model.specs.Lists.{is_among, is_rising}
use Rattle.net_model.specs.Network.{are_patterns, is_listed_pattern}
use Rattle.net_model.specs.Renumbering.{HasEachOnce, IsRenumbered, old_number, renumbered_links, renumbered_pattern, renumbered_set}
use Rattle.net_model.specs.declared.Link.{Link}
use Rattle.net_model.specs.declared.Pattern.{Pattern}
use Rattle.net_model.specs.declared.net.Net.{Net}
use Rattle.net_reader.proofs.RisingOrder.{in_rising_order-from_sorted}
use Rattle.net_reader.proofs.SameNet.{same_net}

-- the order in which each of so many numbers stands at its place
abbrev pub same_order : ℕ → List ℕ
same_order count = range_with_len 0 count

-- each number stands in it once
pub HasEachOnce-same_order : (count : ℕ) → HasEachOnce count (same_order count)
HasEachOnce-same_order count =
    let rising : is_rising (same_order count) ≡ true =
    is_rising-from_places (same_order count) (λ i j d before within.
    let inside : j < count = omega (arith, within, length-range_with_len 0 count) in
    let first = get_or-range_with_len 0 count i d (omega (arith, before, inside)) in
    omega (arith, before, first, get_or-range_with_len 0 count j d inside)) in
    record {
      whole = length-range_with_len 0 count;
      below =
          list_all-from_is_among (λ number. nat_lt number count) (same_order count)
          (λ number among. sym (is_among-range_with_len count number) ∙ among);
      distinct = are_distinct-from_rising (same_order count) rising;
    }

-- the links in this order are the links
pub renumbered_links-same : (links : List Link) → renumbered_links links (same_order (length links)) ≡ links
renumbered_links-same links =
    let none : Link = record { name = []; tail = 0; head = 0 } in
    sym (fill_by_all (λ old. unwrap_or (slice_get links old) none) links (length links) none refl
    (λ k below. sym (unwrap_or-slice_get links k none)))

-- two tests that agree on the numbers of a range keep the same of them
filter_range-agree : (p q : ℕ → Bool) (start count : ℕ) → ((k : ℕ) → start ≤ k → k < start + count → p k ≡ q k)
    → filter p (range_with_len start count) ≡ filter q (range_with_len start count)
filter_range-agree p q start zero each = refl
filter_range-agree p q start (suc count) each =
    let rest = filter_range-agree p q (start + 1) count (λ k from below. each k (omega arith) (omega arith)) in
    rw (each start (omega arith) (omega arith), rest) refl

-- links that rise have the same numbers in this order
pub renumbered_set-same : (count : ℕ) (links : List ℕ) → is_rising links ≡ true → list_all (λ link. nat_lt link count) links ≡ true
    → renumbered_set (same_order count) links ≡ links
renumbered_set-same count links rising below =
    let increasing : IsStrictlyIncreasing links = λ k within. rising-below links k (k + 1) rising (omega arith) within in
    let test : ℕ → Bool = λ new. is_among links (old_number (same_order count) new) in
    ap (λ (n : ℕ). filter test (range_with_len 0 n)) (length-range_with_len 0 count)
    ∙ filter_range-agree test (is_among links) 0 count
    (λ k from within. ap (is_among links) (omega (arith, get_or-range_with_len 0 count k 0 (omega arith))))
    ∙ sym (in_rising_order-from_sorted links links (IsPermutation-refl links) increasing count
    (λ k d within. ltb-true _ _ (passes_at (λ link. nat_lt link count) links k d below within)))

-- listed patterns stay
listed-same : (count : ℕ) (listed : List Pattern) → list_all (is_listed_pattern count) listed ≡ true
    → map (renumbered_pattern (same_order count)) listed ≡ listed
listed-same count [] all = refl
listed-same count (pattern ∷ listed) all =
    let parts = and_parts (is_listed_pattern count pattern) (list_all (is_listed_pattern count) listed) all in
    let some = nat_lt 0 (length pattern.links) && is_rising pattern.links in
    let is = and_parts some (list_all (λ link. nat_lt link count) pattern.links) parts.0 in
    let same = renumbered_set-same count pattern.links (and_parts _ _ is.0).1 is.1 in
    let first : renumbered_pattern (same_order count) pattern ≡ pattern =
    ap (λ (links : List ℕ). record { name = pattern.name; links = links }) same in
    λ i. first i ∷ listed-same count listed parts.1 i

-- so do all patterns of a network
pub patterns-same : (count : ℕ) (patterns : List Pattern) → are_patterns count patterns ≡ true
    → map (renumbered_pattern (same_order count)) patterns ≡ patterns
patterns-same count [] are = refl
patterns-same count (none ∷ listed) are =
    let parts = and_parts (bytes_eq none.name (codes "none") && (length none.links == 0)) (list_all (is_listed_pattern count) listed) are in
    let no_links : none.links ≡ [] = nil_from_length none.links (eqb-true _ _ (and_parts _ _ parts.0).1) in
    let links : renumbered_set (same_order count) none.links ≡ none.links =
    ap (renumbered_set (same_order count)) no_links ∙ renumbered_set-empty (same_order count) ∙ sym no_links in
    let first : renumbered_pattern (same_order count) none ≡ none =
    ap (λ (some : List ℕ). record { name = none.name; links = some }) links in
    λ i. first i ∷ listed-same count listed parts.1 i

-- a network without a wanted rate, in this order and with its own field named, is the network
pub same-renumbered : (net copy : Net) → net.wanted ≡ None → IsRenumbered (same_order (length net.links)) net.field net copy → copy ≡ net
same-renumbered net copy unwanted is =
    let links : copy.links ≡ net.links = is.links ∙ renumbered_links-same net.links in
    let patterns : copy.patterns ≡ net.patterns = is.patterns ∙ patterns-same (length net.links) net.patterns net.network.pattern_links in
    let wanted : copy.wanted ≡ net.wanted = is.wanted ∙ sym unwanted in
    same_net copy net (λ i. record {
      nodes = is.nodes i;
      links = links i;
      source = is.source i;
      sinks = is.sinks i;
      patterns = patterns i;
      field = is.field i;
      wanted = wanted i;
    })
