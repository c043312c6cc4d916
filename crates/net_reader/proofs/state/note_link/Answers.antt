use Rattle.std.proofs.Common.{◌≡◌, ℕ, ◌+◌, ◌++◌, ◌∷◌, [], ◌||◌, List, Option, Bool, Vec, true, false, not, map, length, nat_lt, arith, rules, tests, refl, sym, ap, ◌∙◌}
use Rattle.std.specs.Prelude.{option_to_list}
use Rattle.std.proofs.Math.Bool.{or-false}
use Rattle.std.specs.Global.{Global}
use Rattle.std.specs.List.{list_all, list_any}
use Rattle.std.specs.Str.{bytes_eq}
use Rattle.std.proofs.lemmas.Bool.{le-ltb, lt-ltb, or_from, or_left, or_right}
use Rattle.std.proofs.lemmas.List.{append-nil, length-append, length-map}
use Rattle.std.proofs.lemmas.Simd.{map-map}
use Rattle.name_index.specs.Seen.{distinct_from}
use Rattle.net_model.specs.Limits.{most_links, most_nodes}
use Rattle.net_model.specs.Name.{is_name}
use Rattle.net_reader.specs.Fresh.{are_fresh}
use Rattle.net_reader.specs.Bundles.{Bundle}
use Rattle.net_reader.specs.State.{AreTables, bundle_seen, is_held}
use Rattle.net_reader.specs.Statements.{Statement, is_taken, link_is, link_names, links_named, names_made, too_many_nodes}
use Rattle.net_model.specs.declared.Link.{Link}
use Rattle.net_reader.specs.Text.{number_in}
use Rattle.net_reader.proofs.AddedLinks.{texts}
use Rattle.net_reader.specs.declared.refusal.ReadRefusal.TheVariants.{DuplicateLink, TooMany}
use Rattle.net_reader.specs.declared.refusal.What.TheVariants.{Links, Nodes}
use Rattle.net_reader.proofs.LinkLines.{HasBundle, all_named, bundles_with, bundles_with-is, links_named-fresh, links_with_more, next_link, taken-is}
use Rattle.net_reader.proofs.Tables.{Hears-said, too_many_nodes-is, with_statement-refused}
use Rattle.net_reader.proofs.state.note_link.Goals as goal
use Rattle.net_reader.proofs.state.note_link.Goals.{After-drop-names, After-len, After-len-2, In_ok-add_links, then-is_held-via-then-is_held, then-is_held-via-else-is_held+then-is_any_held, in-Some+in_ok-add-3, in_default}

-- a name of the line is held, where one of the two tests says so
held_either : (c : After-drop-names) → (is_held c.args.state.now c.args.name.now || list_any (is_held c.args.state.now) (links_named c.args.name.now c.args.bundle)) ≡ true
held_either c =
    let own : Bool = is_held c.args.state.now c.args.name.now in
    let others : Bool = list_any (is_held c.args.state.now) (links_named c.args.name.now c.args.bundle) in
    elim c.then-is_held.branch [
      | then-is_held-via-then-is_held w ↦ or_left own others (sym c.is_held.ensures ∙ w.if-is_held.true)
      | then-is_held-via-else-is_held+then-is_any_held w ↦
          or_right own others
          (ap (list_any (is_held c.args.state.now)) (sym c.in_ok-names.ensures ∙ ap (map (λ (one : Vec ℕ Global). one.items)) (sym w.deref.ensures.value)) ∙ sym w.is_any_held.ensures ∙ w.if-is_any_held.true)
    ]

pub returns-then-is_held : goal.returns-then-is_held
returns-then-is_held c = λ earlier tables memory.
    let named = all_named c.args.name.now c.args.tail.now c.args.head.now c.args.bundle (sym c.are_link_names.ensures ∙ (cc)) (sym c.makes_names.ensures ∙ (cc)) in
    let held = taken-is earlier c.args.state.now tables c.args.name.now c.args.bundle in
    with_statement-refused earlier c.args.line (link_is c.args.name.now c.args.tail.now c.args.head.now c.args.bundle) 1 (DuplicateLink c.args.line)
    (named, (held ∙ held_either c, refl))

-- no name of the links is held
none_held : (c : After-len) → list_any (is_held c.args.state.now) (links_named c.args.name.now c.args.bundle) ≡ false
none_held c =
    ap (list_any (is_held c.args.state.now)) (sym c.in_ok-names.ensures ∙ ap (map (λ (one : Vec ℕ Global). one.items)) (sym c.deref.ensures.value)) ∙ sym c.is_any_held.ensures ∙ c.if-is_any_held.false

module _ (c : After-len) (earlier : List Statement) (tables : AreTables earlier c.args.state.now) where
  abbrev link : Statement
  link = link_is c.args.name.now c.args.tail.now c.args.head.now c.args.bundle

  -- the names are names
  named : not (list_all is_name (c.args.name.now ∷ c.args.tail.now ∷ c.args.head.now ∷ names_made c.args.name.now c.args.bundle)) ≡ false
  named = all_named c.args.name.now c.args.tail.now c.args.head.now c.args.bundle (sym c.are_link_names.ensures ∙ (cc)) (sym c.makes_names.ensures ∙ (cc))

  -- none is taken
  free : list_any (is_taken earlier) (c.args.name.now ∷ names_made c.args.name.now c.args.bundle) ≡ false
  free = taken-is earlier c.args.state.now tables c.args.name.now c.args.bundle ∙ or_from _ _ (sym c.is_held.ensures ∙ c.if-is_held.false) (none_held c)

  -- the ends are two nodes
  apart : bytes_eq c.args.tail.now c.args.head.now ≡ false
  apart = search (rules, tests)

  -- the nodes with the link's ends
  nodes : c.add-2.new.self ≡ distinct_from c.args.state.now.nodes (c.args.tail.now ∷ c.args.head.now ∷ [])
  nodes = c.in_ok-add-2.ensures.names ∙ ap (λ (names : List (List ℕ)). distinct_from names (c.args.head.now ∷ [])) c.in_ok-add.ensures.names

  -- whether there are too many nodes
  many : too_many_nodes earlier link ≡ nat_lt most_nodes c.len.result
  many = too_many_nodes-is earlier link c.args.state.now tables c.add-2.new.self nodes ∙ ap (nat_lt most_nodes) (sym c.len.ensures.len)

-- the number of the first link
first_is : (c : After-len-2) → c.len-first.result ≡ length c.args.state.now.links.items
first_is c = c.len-first.ensures ∙ c.args.state.now.links.ok.0

-- how many links the line has
count_is : (c : After-len-2) → c.len-2.result ≡ length (links_named c.args.name.now c.args.bundle)
count_is c = c.len-2.ensures ∙ c.in_ok-names.names.ok.0 ∙ sym (length-map c.in_ok-names.names.items (λ one. one.items)) ∙ ap length c.in_ok-names.ensures

-- how many there are with them
how_many : (c : After-len-2) (earlier : List Statement) → AreTables earlier c.args.state.now
    → length (link_names (earlier ++ link_is c.args.name.now c.args.tail.now c.args.head.now c.args.bundle ∷ [])) ≡ c.len-first.result + c.len-2.result
how_many c earlier tables =
    links_with_more earlier c.args.state.now tables (link_is c.args.name.now c.args.tail.now c.args.head.now c.args.bundle) ∙ (λ i. sym (first_is c) i + sym (count_is c) i)

pub returns-then-len-gt-MOST_NODES : goal.returns-then-len-gt-MOST_NODES
returns-then-len-gt-MOST_NODES c = λ earlier tables memory.
    let at = (goal.at.returns-then-len-gt-MOST_NODES c).After-len in
    with_statement-refused earlier c.args.line (link at earlier tables) 3 (TooMany c.args.line Nodes)
    (named at earlier tables, (free at earlier tables, (apart at earlier tables, (many at earlier tables ∙ lt-ltb _ _ c.if-len-gt-MOST_NODES.true, refl))))

pub returns-then-first-len-gt-MOST_LINKS : goal.returns-then-first-len-gt-MOST_LINKS
returns-then-first-len-gt-MOST_LINKS c = λ earlier tables memory.
    let at = (goal.at.returns-then-first-len-gt-MOST_LINKS c).After-len in
    let after = (goal.at.returns-then-first-len-gt-MOST_LINKS c).After-len-2 in
    with_statement-refused earlier c.args.line (link at earlier tables) 4 (TooMany c.args.line Links)
    (named at earlier tables, (free at earlier tables, (apart at earlier tables, (many at earlier tables ∙ le-ltb _ _ c.if-len-gt-MOST_NODES.false, (ap (nat_lt most_links) (how_many after earlier tables) ∙ lt-ltb _ _ c.if-first-len-gt-MOST_LINKS.true, refl)))))

pub add_links-requires : goal.add_links-requires
add_links-requires c =
    let at = (goal.at.add_links-requires c).After-len in
    let same : c.match-bundle.state.link_names ≡ c.args.state.now.link_names = elim c.match-bundle.branch [
      | in-Some+in_ok-add-3 w ↦ ap (λ state. state.link_names) w.state-is
      | in_default w ↦ ap (λ state. state.link_names) w.state-is
    ] in
    (λ i. are_fresh (same i) (c.in_ok-names.ensures i)) ∙ links_named-fresh c.args.state.now.link_names c.args.state.now.bundles.names c.args.name.now c.args.bundle c.requires (none_held at)

-- the state before the links are added has the line's bundle
has_bundle : (c : In_ok-add_links) → HasBundle c.args.state.now c.match-bundle.state c.add-2.new.self c.args.name.now c.len-first.result c.args.bundle
has_bundle c =
    let old = c.args.state.now.bundles in
    let some : Option ℕ → List Bundle = bundles_with c.args.name.now c.len-first.result in
    elim c.match-bundle.branch [
      | in-Some+in_ok-add-3 w ↦ record {
        bundles = w.add-in-Some.new.self;
        same = w.state-is;
        named = w.in_ok-add-3.ensures.names ∙ ap (λ bundle. old.names ++ map (λ one. one.name) (some bundle)) (sym w.in-Some.is);
        seen = w.in_ok-add-3.ensures.links ∙ ap (λ bundle. map bundle_seen old.links.items ++ some bundle) (sym w.in-Some.is);
      }
      | in_default w ↦ record {
        bundles = old;
        same = w.state-is;
        named = sym (append-nil _) ∙ ap (λ bundle. old.names ++ map (λ one. one.name) (some bundle)) (sym w.in_default.is);
        seen = sym (append-nil _) ∙ ap (λ bundle. map bundle_seen old.links.items ++ some bundle) (sym w.in_default.is);
      }
    ]

pub returns : goal.returns
returns c = λ earlier tables.
    let at = (goal.at.returns c).After-len in
    let after = (goal.at.returns c).After-len-2 in
    let old = c.args.state.now in
    let name = c.args.name.now in
    let has = has_bundle c in
    let between : List ℕ → Link = λ text. record { name = text; tail = number_in c.match-bundle.state.nodes c.args.tail.now; head = number_in c.match-bundle.state.nodes c.args.head.now } in
    let bundle = bundles_with-is earlier name c.args.tail.now c.args.head.now c.len-first.result c.args.bundle (first_is after ∙ next_link earlier old tables) in
    Hears-said earlier c.args.line (link at earlier tables) old _ tables
    (named at earlier tables, (free at earlier tables, (apart at earlier tables, (many at earlier tables ∙ le-ltb _ _ c.if-len-gt-MOST_NODES.false, (ap (nat_lt most_links) (how_many after earlier tables) ∙ le-ltb _ _ c.if-first-len-gt-MOST_LINKS.false, tt)))))
    (record {
      nodes = ap (λ state. state.nodes) has.same ∙ nodes at earlier tables;
      link_names = c.in_ok-add_links.ensures.names ∙ (λ i. (has.same i).link_names ++ c.in_ok-names.ensures i);
      links = c.in_ok-add_links.ensures.links
          ∙ (λ i. (has.same i).links.items ++ map (λ one. record { name = one.items; tail = c.number-tail.ensures i; head = c.number-head.ensures i }) c.in_ok-names.names.items)
          ∙ ap (λ links. old.links.items ++ links) (sym (map-map between (λ one. one.items) c.in_ok-names.names.items) ∙ ap (map between) c.in_ok-names.ensures);
      bundle_names = ap (λ state. state.bundles.names) has.same ∙ has.named ∙ ap (λ bundles. old.bundles.names ++ map (λ one. one.name) bundles) bundle;
      bundles = ap (λ state. map bundle_seen state.bundles.links.items) has.same ∙ has.seen ∙ ap (λ bundles. map bundle_seen old.bundles.links.items ++ bundles) bundle;
      pattern_names = ap (λ state. state.pattern_names) has.same ∙ sym (append-nil _);
      patterns = ap (λ state. state.patterns.items) has.same ∙ sym (append-nil _);
      members = omega (arith, ap (λ state. state.members) has.same);
      sinks = ap (λ state. state.sinks) has.same ∙ sym (append-nil _);
      source = ap (λ state. map (λ one. one.now) (option_to_list state.source)) has.same ∙ sym (append-nil _);
      field = ap (λ state. option_to_list state.field) has.same ∙ sym (append-nil _);
      rate = ap (λ state. option_to_list state.rate) has.same ∙ sym (append-nil _);
      fails_each = ap (λ state. state.fails_each) has.same ∙ sym (or-false _);
      few_nodes = omega (arith, ap (λ state. length state.nodes) has.same, c.len.ensures.len, c.if-len-gt-MOST_NODES.false);
      few_links = omega (
        arith,
        ap length c.in_ok-add_links.ensures.names,
        length-append c.match-bundle.state.link_names (texts c.in_ok-names.names.items),
        ap (λ state. length state.link_names) has.same,
        ap length c.in_ok-names.ensures,
        count_is after,
        first_is after,
        next_link earlier old tables,
        ap length tables.link_names,
        c.if-first-len-gt-MOST_LINKS.false,
      );
      few_patterns = omega (arith, ap (λ state. length state.pattern_names) has.same, tables.few_patterns);
      few_members = omega (arith, ap (λ state. state.members) has.same, tables.few_members);
    })
