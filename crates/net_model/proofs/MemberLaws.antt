-- Patterns whose links have new numbers have as many links.
use Rattle.std.specs.Prelude.{◌≡◌, ◌+◌, ◌<◌, ◌&&◌, ◌==◌, ℕ, Bool, true, codes, nat_lt, List, [], ◌∷◌, length, map}
use Rattle.std.specs.List.{list_all, range_with_len}
use Rattle.std.specs.Str.{bytes_eq}
use Rattle.std.proofs.Common.{ap, sym, ◌∙◌, arith, refl}
use Rattle.std.proofs.lemmas.Bool.{and_parts, eqb-true, ltb-true}
use Rattle.std.proofs.lemmas.List.{length-map, nil_from_length}
use Rattle.std.proofs.lemmas.List.Sums.{sum_by-cons}
use Rattle.item_list.proofs.Tests.{below_bound}
use Rattle.net_model.specs.Failed.{member_count}
use Rattle.net_model.specs.Lists.{is_among, is_rising}
use Rattle.net_model.specs.Network.{are_patterns, is_listed_pattern}
use Rattle.net_model.specs.Renumbering.{HasEachOnce, IsRenumbered, new_number, old_number, renumbered_pattern, renumbered_set}
use Rattle.net_model.specs.declared.Pattern.{Pattern}
use Rattle.net_model.specs.declared.net.FieldChoice.{FieldChoice}
use Rattle.net_model.specs.declared.net.Net.{Net}
use Rattle.net_model.proofs.ListLaws.{is_among-filter, is_among-range_with_len, length-le_from_is_among, list_any-from_is_among}
use Rattle.net_model.proofs.RenumberedParts.{is_rising-filter_range, renumbered_set-empty}
use Rattle.net_model.proofs.RenumberingLaws.{is_among-map, is_among-renumbered_set, new-old, new_number-below, old-new}
use Rattle.net_model.proofs.RisingLaws.{are_distinct-from_rising}

module _ (bound : ℕ) (order : List ℕ) (once : HasEachOnce bound order) where
  -- rising links have as many new numbers
  length-renumbered_set : (links : List ℕ) → is_rising links ≡ true → list_all (λ link. nat_lt link bound) links ≡ true → length (renumbered_set order links) ≡ length links
  length-renumbered_set links rising below =
      let kept : ℕ → Bool = λ new. is_among links (old_number order new) in
      let set = renumbered_set order links in
      let old_there : (link : ℕ) → is_among links link ≡ true → is_among (map (old_number order) set) link ≡ true = λ link among.
      let within : link < bound = below_bound links bound link below (list_any-from_is_among links link among) in
      let back : old_number order (new_number order link) ≡ link = old-new once link within in
      let new_there : is_among set (new_number order link) ≡ true = is_among-renumbered_set order links (new_number order link) (new_number-below once link within) ∙ ap (is_among links) back ∙ among in
      ap (is_among (map (old_number order) set)) (sym back) ∙ is_among-map (old_number order) set (new_number order link) new_there in
      let new_there : (new : ℕ) → is_among set new ≡ true → is_among (map (new_number order) links) new ≡ true = λ new among.
      let parts = and_parts (kept new) (is_among (range_with_len 0 (length order)) new) (sym (is_among-filter kept (range_with_len 0 (length order)) new) ∙ among) in
      let within : new < length order = ltb-true new (length order) (sym (is_among-range_with_len (length order) new) ∙ parts.1) in
      ap (is_among (map (new_number order) links)) (sym (new-old once new within)) ∙ is_among-map (new_number order) links (old_number order new) parts.0 in
      let no_fewer = length-le_from_is_among links (map (old_number order) set) (are_distinct-from_rising links rising) old_there in
      let no_more = length-le_from_is_among set (map (new_number order) links) (are_distinct-from_rising set (is_rising-filter_range kept 0 (length order))) new_there in
      omega (arith, no_fewer, no_more, length-map set (old_number order), length-map links (new_number order))

  -- as many stand in patterns with one more that has as many
  more_members : (pattern : Pattern) (patterns : List Pattern) → length (renumbered_set order pattern.links) ≡ length pattern.links → member_count (map (renumbered_pattern order) patterns) ≡ member_count patterns
      → member_count (map (renumbered_pattern order) (pattern ∷ patterns)) ≡ member_count (pattern ∷ patterns)
  more_members pattern patterns same rest =
      let size : Pattern → ℕ = λ pattern. length pattern.links in
      sum_by-cons size (renumbered_pattern order pattern) (map (renumbered_pattern order) patterns) ∙ (λ i. same i + rest i) ∙ sym (sum_by-cons size pattern patterns)

  -- so in listed patterns
  listed_members : (listed : List Pattern) → list_all (is_listed_pattern bound) listed ≡ true → member_count (map (renumbered_pattern order) listed) ≡ member_count listed
  listed_members [] all = refl
  listed_members (pattern ∷ listed) all =
      let parts = and_parts (is_listed_pattern bound pattern) (list_all (is_listed_pattern bound) listed) all in
      let is = and_parts (nat_lt 0 (length pattern.links) && is_rising pattern.links) (list_all (λ link. nat_lt link bound) pattern.links) parts.0 in
      more_members pattern listed (length-renumbered_set pattern.links (and_parts (nat_lt 0 (length pattern.links)) (is_rising pattern.links) is.0).1 is.1) (listed_members listed parts.1)

  -- and in all patterns of a network
  are_patterns-members : (patterns : List Pattern) → are_patterns bound patterns ≡ true → member_count (map (renumbered_pattern order) patterns) ≡ member_count patterns
  are_patterns-members [] are = refl
  are_patterns-members (none ∷ listed) are =
      let parts = and_parts (bytes_eq none.name (codes "none") && (length none.links == 0)) (list_all (is_listed_pattern bound) listed) are in
      let no_links : none.links ≡ [] = nil_from_length none.links (eqb-true _ _ (and_parts (bytes_eq none.name (codes "none")) (length none.links == 0) parts.0).1) in
      more_members none listed (ap (λ (links : List ℕ). length (renumbered_set order links)) no_links ∙ ap length (renumbered_set-empty order) ∙ sym (ap length no_links)) (listed_members listed parts.1)

-- a network whose links have new numbers has as many links in its patterns
pub member_count-renumbered : (net new : Net) (order : List ℕ) (choice : FieldChoice) → HasEachOnce (length net.links) order → IsRenumbered order choice net new → member_count new.patterns ≡ member_count net.patterns
member_count-renumbered net new order choice once is =
    ap member_count is.patterns ∙ are_patterns-members (length net.links) order once net.patterns net.network.pattern_links
