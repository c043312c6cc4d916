-- What the tables say of a link line.
use Rattle.std.specs.Prelude.{◌≡◌, ℕ, ◌+◌, ◌≤◌, ◌||◌, Bool, true, false, not, List, [], ◌∷◌, ◌++◌, length, map, Option, Some, None, IfSome}
use Rattle.std.specs.List.{list_all, list_any}
use Rattle.std.proofs.Common.{refl, ap, sym, ◌∙◌, length-append}
use Rattle.std.proofs.lemmas.Bool.{and_from, not_from_false, not_from_true, or_parts}
use Rattle.std.proofs.lemmas.List.{length-map}
use Rattle.std.proofs.lemmas.List.Folds.{list_all-append}
use Rattle.name_index.specs.Seen.{has}
use Rattle.net_model.specs.Limits.{most_links}
use Rattle.net_model.specs.Name.{is_name}
use Rattle.net_model.specs.Network.{are_names}
use Rattle.net_reader.specs.declared.bundles.Bundles.{Bundles}
use Rattle.net_reader.specs.declared.state.State.{State}
use Rattle.net_reader.specs.Bundles.{Bundle}
use Rattle.net_reader.specs.Fresh.{are_fresh, are_new}
use Rattle.net_reader.specs.State.{AreTables, bundle_seen, is_held}
use Rattle.net_reader.specs.Statements.{Statement, field_is, rate_is, source_is, sink_is, link_is, pattern_is, fail_each_is, bundle_in, bundle_names, is_taken, link_names, links_in, links_named, names_made}
use Rattle.net_reader.specs.Text.{links_of, links_with}
use Rattle.net_reader.proofs.Distinct.{names_added}
use Rattle.net_reader.proofs.MadeNames.{links_named-are_names, links_named-distinct}
use Rattle.net_reader.proofs.Pushes.{flat_map-push}

-- ---- names

-- a test of the names of a link line: of its own, and of those of its links
any_named : (test : List ℕ → Bool) (name : List ℕ) (bundle : Option ℕ) → list_any test (name ∷ names_made name bundle) ≡ (test name || list_any test (links_named name bundle))
any_named test name None = twice (test name)
  where
    twice : (b : Bool) → (b || false) ≡ (b || (b || false))
    twice true = refl
    twice false = refl
any_named test name (Some count) = refl

-- all are names, where the line's own is and those of its ends, and each that its bundle makes
pub all_named : (name tail head : List ℕ) (bundle : Option ℕ) → list_all is_name (name ∷ tail ∷ head ∷ []) ≡ true → list_all is_name (names_made name bundle) ≡ true
    → not (list_all is_name (name ∷ tail ∷ head ∷ names_made name bundle)) ≡ false
all_named name tail head bundle line made = not_from_true _ (list_all-append is_name (name ∷ tail ∷ head ∷ []) (names_made name bundle) ∙ and_from _ _ line made)

module _ (links bundles : List (List ℕ)) where
  -- a link or a bundle has the name
  abbrev has_either : List ℕ → Bool
  has_either name = has links name || has bundles name

  -- names that none of them has are new
  all_new : (names : List (List ℕ)) → list_any has_either names ≡ false → are_new links names ≡ true
  all_new [] none = refl
  all_new (name ∷ names) none =
      let parts = or_parts (has_either name) (list_any has_either names) none in
      and_from _ _ (not_from_false _ (or_parts (has links name) (has bundles name) parts.0).0) (all_new names parts.1)

  -- so are those of the links of a link line, which are distinct
  pub links_named-fresh : (name : List ℕ) (bundle : Option ℕ) → IfSome bundle (λ count. (1 ≤ count) × (count ≤ most_links)) → list_any has_either (links_named name bundle) ≡ false
      → are_fresh links (links_named name bundle) ≡ true
  links_named-fresh name bundle counted none = and_from _ _ (all_new (links_named name bundle) none) (links_named-distinct name bundle (few bundle counted))
    where
      few : (bundle : Option ℕ) → IfSome bundle (λ count. (1 ≤ count) × (count ≤ most_links)) → IfSome bundle (λ count. count ≤ most_links)
      few None counted = tt
      few (Some count) counted = counted.1

-- with those of a link line whose names are names, none of them taken, the names of links are names, and distinct
pub link_names-good : (earlier : List Statement) (name : List ℕ) (bundle : Option ℕ) → IfSome bundle (λ count. (1 ≤ count) × (count ≤ most_links)) → are_names (link_names earlier) ≡ true
    → list_all is_name (name ∷ names_made name bundle) ≡ true → list_any (is_taken earlier) (name ∷ names_made name bundle) ≡ false → are_names (link_names earlier ++ links_named name bundle) ≡ true
link_names-good earlier name bundle counted are named free =
    let new = or_parts (is_taken earlier name) (list_any (is_taken earlier) (links_named name bundle)) (sym (any_named (is_taken earlier) name bundle) ∙ free) in
    names_added (link_names earlier) (links_named name bundle) are (links_named-are_names name bundle named)
    (links_named-fresh (link_names earlier) (bundle_names earlier) name bundle counted new.1)

-- ---- how many links there are

length-links_with : (nodes : List (List ℕ)) (statement : Statement) → length (links_with nodes statement) ≡ length (links_in statement)
length-links_with nodes (link_is name tail head bundle) = length-map (links_named name bundle) _
length-links_with nodes (field_is bits) = refl
length-links_with nodes (rate_is rate) = refl
length-links_with nodes (source_is node) = refl
length-links_with nodes (sink_is node) = refl
length-links_with nodes (pattern_is name links) = refl
length-links_with nodes fail_each_is = refl

-- there are as many links as names of links
pub length-links_of : (nodes : List (List ℕ)) (statements : List Statement) → length (links_of nodes statements) ≡ length (link_names statements)
length-links_of nodes [] = refl
length-links_of nodes (statement ∷ statements) =
    length-append (links_with nodes statement) (links_of nodes statements)
    ∙ (λ i. length-links_with nodes statement i + length-links_of nodes statements i)
    ∙ sym (length-append (links_in statement) (link_names statements))

module _ (earlier : List Statement) (old : State) (tables : AreTables earlier old) where
  -- a name is taken where it's held
  held_is_taken : is_held old ≡ is_taken earlier
  held_is_taken = λ i name. has (tables.link_names i) name || has (tables.bundle_names i) name

  -- whether a name of a link line is taken
  pub taken-is : (name : List ℕ) (bundle : Option ℕ) → list_any (is_taken earlier) (name ∷ names_made name bundle) ≡ (is_held old name || list_any (is_held old) (links_named name bundle))
  taken-is name bundle = ap (λ test. list_any test (name ∷ names_made name bundle)) (sym held_is_taken) ∙ any_named (is_held old) name bundle

  -- the number of the next link
  pub next_link : length old.links.items ≡ length (link_names earlier)
  next_link = ap length tables.links ∙ length-links_of _ earlier

  -- how many links there are with a statement more
  pub links_with_more : (more : Statement) → length (link_names (earlier ++ more ∷ [])) ≡ length old.links.items + length (links_in more)
  links_with_more more =
      ap length (flat_map-push links_in earlier more) ∙ length-append (link_names earlier) (links_in more) ∙ ap (λ (n : ℕ). n + length (links_in more)) (sym next_link)

-- ---- the bundle

-- the bundle of a link line whose first link has this number, if it is of one
abbrev pub bundles_with : List ℕ → ℕ → Option ℕ → List Bundle
bundles_with name first None = []
bundles_with name first (Some count) = record { name = name; first = first; count = count } ∷ []

-- after earlier statements it is that of the statement
pub bundles_with-is : (earlier : List Statement) (name tail head : List ℕ) (first : ℕ) (bundle : Option ℕ) → first ≡ length (link_names earlier) → bundles_with name first bundle ≡ bundle_in earlier (link_is name tail head bundle)
bundles_with-is earlier name tail head first None is = refl
bundles_with-is earlier name tail head first (Some count) is = λ i. record { name = name; first = is i; count = count } ∷ []

-- The state is the old one with these nodes, and with the bundle of a link line, whose first link has this number.
pub record HasBundle (old state : State) (nodes : List (List ℕ)) (name : List ℕ) (first : ℕ) (bundle : Option ℕ) : Type 0 where
  pub bundles : Bundles
  pub same : state ≡ record old { nodes = nodes; bundles = bundles }
  pub named : bundles.names ≡ old.bundles.names ++ map (λ one. one.name) (bundles_with name first bundle)
  pub seen : map bundle_seen bundles.links.items ≡ map bundle_seen old.bundles.links.items ++ bundles_with name first bundle
