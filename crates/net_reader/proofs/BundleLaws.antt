-- Bundles of statements, and the links that words name by them.
use Rattle.std.specs.Prelude.{◌≡◌, ℕ, zero, suc, ◌+◌, ◌<◌, ◌≤◌, ◌==◌, Bool, true, false, List, [], ◌∷◌, ◌++◌, length, map, Option, Some, None, All, unwrap_or}
use Rattle.std.specs.List.{find, position, position_or_len, range_with_len}
use Rattle.std.specs.Option.{option_map_or}
use Rattle.std.specs.Str.{bytes_eq}
use Rattle.std.proofs.Common.{refl, sym, ap, subst, ◌∙◌, arith, append_assoc}
use Rattle.std.proofs.lemmas.Bool.{eq-eqb, false≢true, or_left}
use Rattle.std.proofs.lemmas.Grind.{flat_map-append}
use Rattle.std.proofs.lemmas.List.{length-append}
use Rattle.std.proofs.lemmas.List.Elements.{All-append, All-cons, All-head, All-nil, All-tail}
use Rattle.std.proofs.lemmas.List.Folds.{find_at}
use Rattle.std.proofs.lemmas.List.FromFn.{length-map-range_with_len}
use Rattle.std.proofs.lemmas.List.Quantifiers.{position-Some}
use Rattle.std.proofs.lemmas.Option.{slice_get_within, unwrap_or-slice_get}
use Rattle.std.proofs.lemmas.Simd.{map-map}
use Rattle.net_model.specs.Lists.{is_among}
use Rattle.net_reader.specs.Bundles.{Bundle, made_name, links_of_bundle, names_none, numbers_named}
use Rattle.net_reader.specs.declared.bundles.BundleLinks.{BundleLinks}
use Rattle.net_reader.specs.declared.state.State.{State}
use Rattle.net_reader.specs.State.{AreBundles, AreTables, bundle_seen}
use Rattle.net_reader.specs.Statements.{Statement, field_is, rate_is, source_is, sink_is, link_is, pattern_is, fail_each_is, bundle_in, bundles_of, each_after, link_names, links_in}

-- the links of a bundle are among so many
abbrev pub IsWithin : ℕ → Bundle → Type 0
IsWithin count bundle = bundle.first + bundle.count ≤ count

-- those of a statement are among the links so far and its own
bundle_in-within : (earlier : List Statement) (statement : Statement) (count : ℕ) → length (link_names earlier) + length (links_in statement) ≤ count → All (IsWithin count) (bundle_in earlier statement)
bundle_in-within earlier (link_is name tail head (Some links)) count within =
    let bundle : Bundle = record { name = name; first = length (link_names earlier); count = links } in
    All-cons (IsWithin count) bundle [] (omega (arith, within, length-map-range_with_len (made_name name) 1 links)) (All-nil (IsWithin count))
bundle_in-within earlier (link_is name tail head None) count within = All-nil (IsWithin count)
bundle_in-within earlier (field_is bits) count within = All-nil (IsWithin count)
bundle_in-within earlier (rate_is rate) count within = All-nil (IsWithin count)
bundle_in-within earlier (source_is node) count within = All-nil (IsWithin count)
bundle_in-within earlier (sink_is node) count within = All-nil (IsWithin count)
bundle_in-within earlier (pattern_is name links) count within = All-nil (IsWithin count)
bundle_in-within earlier fail_each_is count within = All-nil (IsWithin count)

-- those of statements after earlier ones are among the links of all
bundles-within : (earlier statements : List Statement) (count : ℕ) → length (link_names (earlier ++ statements)) ≤ count → All (IsWithin count) (each_after bundle_in earlier statements)
bundles-within earlier [] count within = All-nil (IsWithin count)
bundles-within earlier (statement ∷ statements) count within =
    let own : link_names (earlier ++ statement ∷ statements) ≡ link_names earlier ++ (links_in statement ++ link_names statements) = flat_map-append links_in earlier (statement ∷ statements) in
    All-append (IsWithin count) (bundle_in earlier statement) (each_after bundle_in (earlier ++ statement ∷ []) statements)
    (bundle_in-within earlier statement count
    (omega (arith, within, ap length own, length-append (link_names earlier) (links_in statement ++ link_names statements), length-append (links_in statement) (link_names statements))))
    (bundles-within (earlier ++ statement ∷ []) statements count
    (subst (λ (all : List Statement). length (link_names all) ≤ count) (sym (append_assoc earlier (statement ∷ []) statements)) within))

-- the links of each bundle are among those of the statements
pub bundles_of-within : (statements : List Statement) → All (IsWithin (length (link_names statements))) (bundles_of statements)
bundles_of-within statements = bundles-within [] statements (length (link_names statements)) (omega arith)

-- ---- what a word names

-- what is found has what all have
find-All : {X : Type 0} (P : X → Type 0) (test : X → Bool) (xs : List X) (x : X) → All P xs → find test xs ≡ Some x → P x
find-All P test xs x all found =
    let k = position_or_len test xs in
    let at = sym (find_at test xs) ∙ found in
    subst P (sym (unwrap_or-slice_get xs k x) ∙ ap (λ o. unwrap_or o x) at) (all k x (slice_get_within xs k x at))

-- what something is among numbers, and below so many
abbrev pub NamesOne : ℕ → List ℕ → Type 0
NamesOne count numbers = (number : ℕ) × (number < count) × (is_among numbers number ≡ true)

-- a word that names a link names one of those there are
pub names_one : (links : List (List ℕ)) (bundles : List Bundle) (word : List ℕ) → All (IsWithin (length links)) bundles → names_none links bundles word ≡ false → NamesOne (length links) (numbers_named links bundles word)
names_one links bundles word within some = of_position (position (bytes_eq word) links) refl some
  where
    named : Option ℕ → List ℕ
    named found = elim found as (λ x. List ℕ) [
      | Some number ↦ number ∷ []
      | None ↦ option_map_or links_of_bundle (find (λ bundle. bytes_eq word bundle.name) bundles) []
    ]

    of_bundle : (found : Option Bundle) → find (λ bundle. bytes_eq word bundle.name) bundles ≡ found → (length (option_map_or links_of_bundle found []) == 0) ≡ false → NamesOne (length links) (option_map_or links_of_bundle found [])
    of_bundle None is some = absurd (false≢true (sym some))
    of_bundle (Some bundle) is some = by bundle.count refl some
      where
        by : (count : ℕ) → bundle.count ≡ count → (length (range_with_len bundle.first count) == 0) ≡ false → NamesOne (length links) (range_with_len bundle.first bundle.count)
        by zero same some = absurd (false≢true (sym some))
        by (suc count) same some =
            let inside : bundle.first + bundle.count ≤ length links = find-All (IsWithin (length links)) (λ bundle. bytes_eq word bundle.name) bundles bundle within is in
            (bundle.first, omega (arith, inside, same), subst (λ (n : ℕ). is_among (range_with_len bundle.first n) bundle.first ≡ true) (sym same) (or_left _ _ (eq-eqb bundle.first bundle.first refl)))

    of_position : (found : Option ℕ) → position (bytes_eq word) links ≡ found → (length (named found) == 0) ≡ false → NamesOne (length links) (named found)
    of_position (Some number) is some = (number, (position-Some (bytes_eq word) links number [] is).0, or_left _ _ (eq-eqb number number refl))
    of_position None is some = of_bundle (find (λ bundle. bytes_eq word bundle.name) bundles) refl some

-- ---- the tables

-- what holds of a part of each item
of_parts : {X Y : Type 0} (P : Y → Type 0) (part : X → Y) (xs : List X) → All P (map part xs) → All (λ x. P (part x)) xs
of_parts P part [] all = All-nil (λ x. P (part x))
of_parts P part (x ∷ xs) all = All-cons (λ x. P (part x)) x xs (All-head P (part x) (map part xs) all) (of_parts P part xs (All-tail P (part x) (map part xs) all))

-- the bundles of the reader have their names, and their links are among those that there are
pub AreBundles-from_tables : (statements : List Statement) (state : State) → AreTables statements state → AreBundles state.link_names state.bundles
AreBundles-from_tables statements state tables =
    let kept : List BundleLinks = state.bundles.links.items in
    let count = length state.link_names in
    record {
      names = tables.bundle_names ∙ ap (λ (bundles : List Bundle). map (λ bundle. bundle.name) bundles) (sym tables.bundles) ∙ map-map (λ (bundle : Bundle). bundle.name) bundle_seen kept;
      within = of_parts (IsWithin count) bundle_seen kept
          (subst (λ (bundles : List Bundle). All (IsWithin count) bundles) (sym tables.bundles)
          (subst (λ (names : List (List ℕ)). All (IsWithin (length names)) (bundles_of statements)) (sym tables.link_names) (bundles_of-within statements)));
    }
