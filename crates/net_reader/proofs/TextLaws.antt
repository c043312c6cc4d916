-- A good text stands for a network.
use Rattle.std.specs.Prelude.{◌≡◌, ℕ, suc, ◌+◌, ◌<◌, ◌≤◌, Bool, true, false, not, nat_eq, nat_lt, List, [], ◌∷◌, ◌++◌, length, map, codes, All, Option, Some, None, Result, Ok, Err, IfOk, IfSome, cond, if◌then◌else◌, position, slice_get}
use Rattle.std.specs.List.{flat_map, list_all, list_any, position_or_len}
use Rattle.std.specs.Str.{bytes_eq}
use Rattle.std.proofs.Common.{refl, sym, subst, ap, ◌∙◌, append-nil, arith}
use Rattle.std.proofs.lemmas.Bool.{and_parts, and_from, false_from_ne_true, or_parts, not-true, not_from_false, lt-ltb, ltb-false}
use Rattle.std.proofs.lemmas.List.{length-append, length-map, map-append}
use Rattle.std.proofs.lemmas.List.Folds.{list_all-append}
use Rattle.std.proofs.lemmas.List.Sums.{sum_by-append, sum_by-cons}
use Rattle.std.proofs.lemmas.Option.{none-some}
use Rattle.item_list.proofs.Tests.{position_or_len-within}
use Rattle.net_model.specs.Failed.{member_count}
use Rattle.net_model.specs.Limits.{highest_rate, most_listed}
use Rattle.net_model.specs.Lists.{are_distinct}
use Rattle.net_model.specs.Name.{is_name}
use Rattle.net_model.specs.Network.{are_names, is_link_among, is_listed_pattern, IsNetwork, IsWanted}
use Rattle.net_model.specs.declared.Link.{Link}
use Rattle.net_model.specs.declared.Pattern.{Pattern}
use Rattle.name_index.specs.Seen.{has}
use Rattle.net_reader.proofs.Distinct.{names_added}
use Rattle.net_reader.proofs.GoodLaws.{AreGood, AreGood-none, ends_differ, read_lines-good}
use Rattle.net_reader.proofs.LinkLines.{length-links_of}
use Rattle.net_reader.proofs.NameLaws.{distinct_from-are_names, distinct_from-has, number_below, numbers_apart, sinks_among, distinct_numbers}
use Rattle.net_reader.specs.Lines.{lines_of}
use Rattle.net_reader.specs.Statements.{Statement, field_is, rate_is, source_is, sink_is, link_is, pattern_is, fail_each_is, has_fail_each, links_in, links_named, most_read_members, nodes_in, link_names, pattern_in, pattern_names, patterns_in, patterns_of, rates_of, sink_names, sinks_in, source_names, sources_in, nodes_of, each_after}
use Rattle.net_reader.specs.Text.{alone_fault, each_alone, names_pattern, number_in, links_of, links_with, read_lines, Parts, parts_in, unless_fault, whole_of, whole_in, network_of}
use Rattle.net_reader.specs.declared.refusal.ReadRefusal.{ReadRefusal}
use Rattle.net_reader.specs.declared.refusal.ReadRefusal.TheVariants.{SinkIsSource, PatternNamed, TooManyPatterns}

-- ---- the names of links and patterns

-- the names of the links of a statement
names-links_with : (nodes : List (List ℕ)) (statement : Statement) → map (λ (link : Link). link.name) (links_with nodes statement) ≡ links_in statement
names-links_with nodes (link_is name tail head bundle) = named (links_named name bundle)
  where
    named : (names : List (List ℕ)) → map (λ (link : Link). link.name) (map (λ (one : List ℕ). record { name = one; tail = number_in nodes tail; head = number_in nodes head }) names) ≡ names
    named [] = refl
    named (one ∷ names) = ap (λ (rest : List (List ℕ)). one ∷ rest) (named names)
names-links_with nodes (field_is bits) = refl
names-links_with nodes (rate_is rate) = refl
names-links_with nodes (source_is node) = refl
names-links_with nodes (sink_is node) = refl
names-links_with nodes (pattern_is name links) = refl
names-links_with nodes fail_each_is = refl

link_names-links_of : (nodes : List (List ℕ)) (statements : List Statement) → map (λ (link : Link). link.name) (links_of nodes statements) ≡ link_names statements
link_names-links_of nodes [] = refl
link_names-links_of nodes (statement ∷ statements) =
    map-append (λ (link : Link). link.name) (links_with nodes statement) (links_of nodes statements)
    ∙ (λ i. names-links_with nodes statement i ++ link_names-links_of nodes statements i)

-- the names of listed patterns, after earlier statements
names-pattern_in : (earlier : List Statement) (statement : Statement) → map (λ (pattern : Pattern). pattern.name) (pattern_in earlier statement) ≡ patterns_in statement
names-pattern_in earlier (field_is bits) = refl
names-pattern_in earlier (rate_is rate) = refl
names-pattern_in earlier (source_is node) = refl
names-pattern_in earlier (sink_is node) = refl
names-pattern_in earlier (link_is name tail head bundle) = refl
names-pattern_in earlier (pattern_is name links) = refl
names-pattern_in earlier fail_each_is = refl

names-after : (earlier statements : List Statement) → map (λ (pattern : Pattern). pattern.name) (each_after pattern_in earlier statements) ≡ pattern_names statements
names-after earlier [] = refl
names-after earlier (statement ∷ statements) =
    map-append (λ (pattern : Pattern). pattern.name) (pattern_in earlier statement) (each_after pattern_in (earlier ++ statement ∷ []) statements)
    ∙ (λ i. names-pattern_in earlier statement i ++ names-after (earlier ++ statement ∷ []) statements i)

pub pattern_names-patterns_of : (statements : List Statement) → map (λ (pattern : Pattern). pattern.name) (patterns_of statements) ≡ pattern_names statements
pattern_names-patterns_of statements = names-after [] statements

-- ---- the ends of links, the sources and the sinks

module _ (nodes : List (List ℕ)) where
  -- so many links between two nodes lead from nodes to other nodes
  copies_among : (tail head : ℕ) → tail < length nodes → head < length nodes → nat_eq tail head ≡ false → (names : List (List ℕ))
      → list_all (is_link_among (length nodes)) (map (λ (one : List ℕ). record { name = one; tail = tail; head = head }) names) ≡ true
  copies_among tail head from to apart [] = refl
  copies_among tail head from to apart (name ∷ names) =
      and_from _ _ (and_from _ _ (and_from _ _ (lt-ltb _ _ from) (lt-ltb _ _ to)) (not_from_false _ apart)) (copies_among tail head from to apart names)

  -- those of a statement do
  links_with-among : (statement : Statement) → list_all (has nodes) (nodes_in statement) ≡ true → ends_differ statement ≡ true → list_all (is_link_among (length nodes)) (links_with nodes statement) ≡ true
  links_with-among (link_is name tail head bundle) all differ =
      let tail_first = and_parts (has nodes tail) (list_all (has nodes) (head ∷ [])) all in
      let head_first = and_parts (has nodes head) true tail_first.1 in
      copies_among (number_in nodes tail) (number_in nodes head) (number_below nodes tail tail_first.0) (number_below nodes head head_first.0)
      (numbers_apart nodes tail head tail_first.0 head_first.0 (not-true _ differ)) (links_named name bundle)
  links_with-among (field_is bits) all differ = refl
  links_with-among (rate_is rate) all differ = refl
  links_with-among (source_is node) all differ = refl
  links_with-among (sink_is node) all differ = refl
  links_with-among (pattern_is name links) all differ = refl
  links_with-among fail_each_is all differ = refl

  links_among : (statements : List Statement) → list_all (has nodes) (flat_map nodes_in statements) ≡ true → list_all ends_differ statements ≡ true → list_all (is_link_among (length nodes)) (links_of nodes statements) ≡ true
  links_among [] all apart = refl
  links_among (statement ∷ statements) all apart =
      let parts = and_parts _ _ (sym (list_all-append (has nodes) (nodes_in statement) (flat_map nodes_in statements)) ∙ all) in
      let differ = and_parts (ends_differ statement) (list_all ends_differ statements) apart in
      list_all-append (is_link_among (length nodes)) (links_with nodes statement) (links_of nodes statements)
      ∙ and_from _ _ (links_with-among statement parts.0 differ.0) (links_among statements parts.1 differ.1)

  -- names of nodes that each statement has among its own are nodes
  has_of : (names_in : Statement → List (List ℕ)) → ((statement : Statement) → list_all (has nodes) (nodes_in statement) ≡ true → list_all (has nodes) (names_in statement) ≡ true)
      → (statements : List Statement) → list_all (has nodes) (flat_map nodes_in statements) ≡ true → list_all (has nodes) (flat_map names_in statements) ≡ true
  has_of names_in each [] all = refl
  has_of names_in each (statement ∷ statements) all =
      let parts = and_parts _ _ (sym (list_all-append (has nodes) (nodes_in statement) (flat_map nodes_in statements)) ∙ all) in
      list_all-append (has nodes) (names_in statement) (flat_map names_in statements) ∙ and_from _ _ (each statement parts.0) (has_of names_in each statements parts.1)

  sinks_have : (statement : Statement) → list_all (has nodes) (nodes_in statement) ≡ true → list_all (has nodes) (sinks_in statement) ≡ true
  sinks_have (sink_is node) all = all
  sinks_have (field_is bits) all = refl
  sinks_have (rate_is rate) all = refl
  sinks_have (source_is node) all = refl
  sinks_have (link_is name tail head bundle) all = refl
  sinks_have (pattern_is name links) all = refl
  sinks_have fail_each_is all = refl

  sources_have : (statement : Statement) → list_all (has nodes) (nodes_in statement) ≡ true → list_all (has nodes) (sources_in statement) ≡ true
  sources_have (source_is node) all = all
  sources_have (field_is bits) all = refl
  sources_have (rate_is rate) all = refl
  sources_have (sink_is node) all = refl
  sources_have (link_is name tail head bundle) all = refl
  sources_have (pattern_is name links) all = refl
  sources_have fail_each_is all = refl

-- the first source is a node
source_among : (statements : List Statement) (source : List ℕ) (more : List (List ℕ)) → source_names statements ≡ source ∷ more → has (nodes_of statements) source ≡ true
source_among statements source more is_sources =
    let nodes = nodes_of statements in
    let sources : list_all (has nodes) (source_names statements) ≡ true = has_of nodes sources_in (sources_have nodes) statements (distinct_from-has [] (flat_map nodes_in statements)) in
    (and_parts (has nodes source) (list_all (has nodes) more) (subst (λ (others : List (List ℕ)). list_all (has nodes) others ≡ true) is_sources sources)).0

-- ---- links that each fail alone

-- their patterns have their names, and are as many
names-each_alone : (names : List (List ℕ)) (link : ℕ) → map (λ (pattern : Pattern). pattern.name) (each_alone names link) ≡ names
names-each_alone [] link = refl
names-each_alone (name ∷ names) link = ap (λ (rest : List (List ℕ)). name ∷ rest) (names-each_alone names (link + 1))

length-each_alone : (names : List (List ℕ)) (link : ℕ) → length (each_alone names link) ≡ length names
length-each_alone [] link = refl
length-each_alone (name ∷ names) link = ap suc (length-each_alone names (link + 1))

-- and have as many links
members-each_alone : (names : List (List ℕ)) (link : ℕ) → member_count (each_alone names link) ≡ length (each_alone names link)
members-each_alone [] link = refl
members-each_alone (name ∷ names) link =
    omega (arith, sum_by-cons (λ (pattern : Pattern). length pattern.links) (record { name = name; links = link ∷ [] }) (each_alone names (link + 1)), members-each_alone names (link + 1))

-- they are listed ones
alone_listed : (names : List (List ℕ)) (link count : ℕ) → link + length names ≤ count → list_all (is_listed_pattern count) (each_alone names link) ≡ true
alone_listed [] link count within = refl
alone_listed (name ∷ names) link count within =
    and_from _ _ (and_from _ _ (and_from _ _ refl refl) (and_from _ _ (lt-ltb link count (omega (arith, within))) refl)) (alone_listed names (link + 1) count (omega (arith, within)))

-- Patterns that are added to the listed ones: their names are no others', they are listed ones, there are few, and each has one
-- link.
record AreAdded (statements : List Statement) (more : List Pattern) : Type 0 where
  named : are_names (codes "none" ∷ pattern_names statements ++ map (λ (pattern : Pattern). pattern.name) more) ≡ true
  listed : list_all (is_listed_pattern (length (link_names statements))) more ≡ true
  few : length (pattern_names statements) + length more ≤ most_listed
  members : member_count more ≡ length more

-- none
added_none : (statements : List Statement) → AreGood statements → AreAdded statements []
added_none statements good = record {
  named = subst (λ (names : List (List ℕ)). are_names (codes "none" ∷ names) ≡ true) (sym (append-nil (pattern_names statements))) good.patterns_named;
  listed = refl;
  few = omega (arith, good.few_patterns);
  members = refl;
}

-- where no link is named as a pattern, the names of links are new beside those of patterns
names_new : (statements : List Statement) (names : List (List ℕ)) → list_any (names_pattern statements) names ≡ false → list_all (λ name. not (has (codes "none" ∷ pattern_names statements) name)) names ≡ true
names_new statements [] none = refl
names_new statements (name ∷ names) none =
    let parts = or_parts (names_pattern statements name) (list_any (names_pattern statements) names) none in
    and_from _ _ (not_from_false _ parts.0) (names_new statements names parts.1)

-- one for each link, where there is no fault in that
added_each : (statements : List Statement) → AreGood statements → alone_fault statements ≡ None → AreAdded statements (each_alone (link_names statements) 0)
added_each statements good none = by (position (names_pattern statements) (link_names statements)) refl none
  where
    links : List (List ℕ)
    links = link_names statements

    count : ℕ
    count = length (pattern_names statements) + length links

    many : Option ReadRefusal
    many = if nat_lt most_listed count then Some (TooManyPatterns count) else None

    few : (b : Bool) → nat_lt most_listed count ≡ b → (if b then Some (TooManyPatterns count) else None) ≡ None → count ≤ most_listed
    few true is e = absurd cc
    few false is e = ltb-false _ _ is

    by : (found : Option ℕ) → position (names_pattern statements) links ≡ found → (elim found as (λ x. Option ReadRefusal) [ Some link ↦ Some (PatternNamed link) | None ↦ many ]) ≡ None
        → AreAdded statements (each_alone links 0)
    by (Some link) is e = absurd cc
    by None is e =
        let named = and_parts (list_all is_name links) (are_distinct bytes_eq links) good.links_named in
        let new = names_new statements links (none_named is) in
        record {
          named = subst (λ (names : List (List ℕ)). are_names (codes "none" ∷ pattern_names statements ++ names) ≡ true) (sym (names-each_alone links 0))
              (names_added (codes "none" ∷ pattern_names statements) links good.patterns_named named.0 (and_from _ _ new named.1));
          listed = alone_listed links 0 (length links) (omega arith);
          few = omega (arith, few (nat_lt most_listed count) refl e, length-each_alone links 0);
          members = members-each_alone links 0;
        }
      where
        found : list_any (names_pattern statements) links ≡ true → position (names_pattern statements) links ≡ Some (position_or_len (names_pattern statements) links)
        found some =
            let place = position_or_len (names_pattern statements) links in
            ap (λ (b : Bool). cond b (Some place) None) (lt-ltb place (length links) (position_or_len-within (names_pattern statements) links some))

        none_named : position (names_pattern statements) links ≡ None → list_any (names_pattern statements) links ≡ false
        none_named is = false_from_ne_true _ (λ some. none-some _ (sym is ∙ found some))

-- ---- the parts

-- the parts are those of a network, with a wanted rate within the limits and few links in all patterns together
record Stands (parts : Parts) : Type 0 where
  network : IsNetwork parts.nodes parts.links parts.source parts.sinks parts.patterns
  wanted : IsWanted parts.wanted
  few_members : member_count parts.patterns ≤ most_read_members

-- the first of the wanted rates, if there is one, is low
first_low : (rates : List ℕ) → All (λ rate. (1 ≤ rate) × (rate ≤ highest_rate)) rates → IsWanted (slice_get rates 0)
first_low [] low = λ rate is. absurd (none-some rate is)
first_low (first ∷ rates) low = λ rate is. subst (λ (found : Option ℕ). IfSome found (λ rate. (1 ≤ rate) × (rate ≤ highest_rate))) is (low 0 first (omega arith))

-- the parts of good statements with a source that is a node and no sink
parts_stand : (statements : List Statement) (source : List ℕ) → AreGood statements → AreAdded statements (if has_fail_each statements then each_alone (link_names statements) 0 else [])
    → has (nodes_of statements) source ≡ true → 0 < length (sink_names statements) → has (sink_names statements) source ≡ false → Stands (parts_in statements source)
parts_stand statements source good added has_source some_sink apart =
    let nodes = nodes_of statements in
    let more = if has_fail_each statements then each_alone (link_names statements) 0 else [] in
    let all : list_all (has nodes) (flat_map nodes_in statements) ≡ true = distinct_from-has [] (flat_map nodes_in statements) in
    let sinks : list_all (has nodes) (sink_names statements) ≡ true = has_of nodes sinks_in (sinks_have nodes) statements all in
    let count : length (links_of nodes statements) ≡ length (link_names statements) = length-links_of nodes statements in
    let names : map (λ (pattern : Pattern). pattern.name) (patterns_of statements ++ more) ≡ pattern_names statements ++ map (λ (pattern : Pattern). pattern.name) more =
    map-append (λ (pattern : Pattern). pattern.name) (patterns_of statements) more ∙ ap (λ (names : List (List ℕ)). names ++ map (λ (pattern : Pattern). pattern.name) more) (pattern_names-patterns_of statements) in
    let listed : list_all (is_listed_pattern (length (link_names statements))) (patterns_of statements ++ more) ≡ true =
    list_all-append (is_listed_pattern (length (link_names statements))) (patterns_of statements) more ∙ and_from _ _ good.patterns_listed added.listed in
    record {
      network = record {
        node_names = distinct_from-are_names (flat_map nodes_in statements) good.nodes_named;
        link_names = subst (λ (others : List (List ℕ)). are_names others ≡ true) (sym (link_names-links_of nodes statements)) good.links_named;
        link_ends = links_among nodes statements all good.ends_apart;
        source_node = number_below nodes source has_source;
        some_sink = omega (arith, some_sink, length-map (sink_names statements) (number_in nodes));
        sink_nodes = sinks_among nodes source (sink_names statements) has_source sinks apart;
        distinct_sinks = distinct_numbers nodes (sink_names statements) sinks good.sinks_distinct;
        pattern_names = subst (λ (others : List (List ℕ)). are_names (codes "none" ∷ others) ≡ true) (sym names) added.named;
        pattern_links = subst (λ (n : ℕ). list_all (is_listed_pattern n) (patterns_of statements ++ more) ≡ true) (sym count) listed;
        few_nodes = good.few_nodes;
        few_links = omega (arith, count, good.few_links);
        few_patterns = omega (arith, added.few, length-append (patterns_of statements) more, length-map (patterns_of statements) (λ (pattern : Pattern). pattern.name), ap (λ (names : List (List ℕ)). length names) (pattern_names-patterns_of statements));
      };
      wanted = first_low (rates_of statements) good.rates_low;
      few_members = omega (arith, sum_by-append (λ (pattern : Pattern). length pattern.links) (patterns_of statements) more, good.few_members, added.members, added.few);
    }

-- what good statements stand for
whole_stands : (statements : List Statement) (sources sinks : List (List ℕ)) → AreGood statements → source_names statements ≡ sources → sink_names statements ≡ sinks → IfOk (whole_of statements sources sinks) Stands
whole_stands statements [] sinks good is_sources is_sinks = tt
whole_stands statements (source ∷ more) [] good is_sources is_sinks = tt
whole_stands statements (source ∷ more) (sink ∷ sinks) good is_sources is_sinks = either (has (sink ∷ sinks) source) refl
  where
    parts : Parts
    parts = parts_in statements source

    fault : Option ReadRefusal
    fault = if has_fail_each statements then alone_fault statements else None

    unless : (found : Option ReadRefusal) → (found ≡ None → Stands parts) → IfOk (unless_fault found parts) Stands
    unless None stand = stand refl
    unless (Some refusal) stand = tt

    added : (b : Bool) → (if b then alone_fault statements else None) ≡ None → AreAdded statements (if b then each_alone (link_names statements) 0 else [])
    added true none = added_each statements good none
    added false none = added_none statements good

    either : (b : Bool) → has (sink ∷ sinks) source ≡ b → IfOk (if b then Err (SinkIsSource (number_in (nodes_of statements) source)) else unless_fault fault parts) Stands
    either true is = tt
    either false is =
        let here : has (nodes_of statements) source ≡ true = source_among statements source more is_sources in
        let some : 0 < length (sink_names statements) = subst (λ (others : List (List ℕ)). 0 < length others) (sym is_sinks) (omega arith) in
        unless fault (λ none.
        parts_stand statements source good (added (has_fail_each statements) none) here some (subst (λ (others : List (List ℕ)). has others source ≡ false) (sym is_sinks) is))

read_stands : (read : Result (List Statement) ReadRefusal) → IfOk read AreGood → IfOk (whole_in read) Stands
read_stands (Err refusal) good = tt
read_stands (Ok statements) good = whole_stands statements (source_names statements) (sink_names statements) good refl refl

-- a good text stands for a network, its wanted rate is within the limits, and its patterns have few links together
stands-from_text : (text : List ℕ) (parts : Parts) → network_of text ≡ Ok parts → Stands parts
stands-from_text text parts good =
    subst (λ (read : Result Parts ReadRefusal). IfOk read Stands) good (read_stands (read_lines [] 1 (lines_of text)) (read_lines-good [] 1 (lines_of text) AreGood-none))

pub IsNetwork-from_text : (text : List ℕ) (parts : Parts) → network_of text ≡ Ok parts → IsNetwork parts.nodes parts.links parts.source parts.sinks parts.patterns
IsNetwork-from_text text parts good = (stands-from_text text parts good).network

pub IsWanted-from_text : (text : List ℕ) (parts : Parts) → network_of text ≡ Ok parts → IsWanted parts.wanted
IsWanted-from_text text parts good = (stands-from_text text parts good).wanted

-- so they are few in the parts of a good text
pub few_members : (text : List ℕ) (parts : Parts) → network_of text ≡ Ok parts → member_count parts.patterns ≤ most_read_members
few_members text parts good = (stands-from_text text parts good).few_members
