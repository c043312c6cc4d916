use Rattle.std.proofs.Common.{◌≡◌, ◌<◌, ℕ, List, [], length, map, ap, sym, ◌∙◌, arith}
use Rattle.std.specs.Prelude.{None, Option, Some}
use Rattle.std.specs.List.{find, position}
use Rattle.std.specs.Option.{option_map, option_map_or}
use Rattle.std.specs.Str.{bytes_eq}
use Rattle.std.proofs.lemmas.List.{length-map}
use Rattle.std.proofs.lemmas.Option.{slice_get-map, slice_get_read}
use Rattle.std.proofs.lemmas.Simd.{map-map}
use Rattle.net_reader.specs.declared.bundles.BundleLinks.{BundleLinks}
use Rattle.net_reader.specs.declared.bundles.Bundles.{Bundles}
use Rattle.net_reader.specs.Bundles.{Bundle, links_of_bundle}
use Rattle.net_reader.specs.State.{AreBundles, bundle_seen}
use Rattle.net_reader.proofs.Gathering.{find-nowhere, find-place, numbers_named-bundle}
use Rattle.net_reader.proofs.bundles.named.Goals as goal

module _ (links : List (List ℕ)) (bundles : Bundles) (are : AreBundles links bundles) where
  -- the names that are kept are those of the bundles
  names_seen : bundles.names ≡ map (λ bundle. bundle.name) (map bundle_seen bundles.links.items)
  names_seen = are.names ∙ sym (map-map (λ (bundle : Bundle). bundle.name) bundle_seen bundles.links.items)

  -- there are as many as bundles
  as_many : length bundles.names ≡ length bundles.links.items
  as_many = ap length are.names ∙ length-map bundles.links.items (λ (bundle : BundleLinks). bundle.name.now)

pub returns-in_default-number_of-clause-numbers : goal.returns-in_default-number_of-clause-numbers
returns-in_default-number_of-clause-numbers c =
    let bundles = map bundle_seen c.args.bundles.now.links.items in
    let none : position (bytes_eq c.args.word.now) (map (λ bundle. bundle.name) bundles) ≡ None =
    ap (position (bytes_eq c.args.word.now)) (sym (names_seen c.args.links.now c.args.bundles.now c.requires.bundles)) ∙ sym c.in_default-number_of.ensures.value in
    sym (numbers_named-bundle c.args.links.now bundles c.args.word.now (sym c.in_default.ensures.value)
    ∙ ap (λ (found : Option Bundle). option_map_or links_of_bundle found []) (find-nowhere (λ (bundle : Bundle). bundle.name) (bytes_eq c.args.word.now) bundles none))

pub returns-clause-numbers : goal.returns-clause-numbers
returns-clause-numbers c =
    let items = c.args.bundles.now.links.items in
    let place = c.in-Some-number_of.place in
    let at : position (bytes_eq c.args.word.now) (map (λ bundle. bundle.name) (map bundle_seen items)) ≡ Some place =
    ap (position (bytes_eq c.args.word.now)) (sym (names_seen c.args.links.now c.args.bundles.now c.requires.bundles)) ∙ sym c.in-Some-number_of.ensures.value in
    let within : place < length items = omega (arith, c.in-Some-number_of.ensures.within, as_many c.args.links.now c.args.bundles.now c.requires.bundles) in
    let found : find (λ bundle. bytes_eq c.args.word.now bundle.name) (map bundle_seen items) ≡ Some (bundle_seen c.index-bundle.result.now) =
    find-place (λ (bundle : Bundle). bundle.name) (bytes_eq c.args.word.now) (map bundle_seen items) place at
    ∙ slice_get-map bundle_seen items place
    ∙ ap (option_map bundle_seen) (slice_get_read items (length items) place c.index-bundle.result.now (ap length (λ i. items)) within c.index-bundle.ensures) in
    sym (numbers_named-bundle c.args.links.now (map bundle_seen items) c.args.word.now (sym c.in_default.ensures.value)
    ∙ ap (λ (found : Option Bundle). option_map_or links_of_bundle found []) found)
