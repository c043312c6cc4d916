use Rattle.std.proofs.Common.{◌≡◌, ◌||◌, ◌∷◌, ◌++◌, [], ◌+◌, ◌<◌, ℕ, All, IfSome, List, Option, Vec, Global, false, true, codes, is_some, length, map, nat_eq, nat_lt, not, refl, subst, sym, ap, ◌∙◌, arith, rules, tests}
use Rattle.std.specs.List.{list_all, list_any}
use Rattle.std.specs.Str.{bytes_eq}
use Rattle.std.proofs.Math.Bool.{or-false}
use Rattle.std.proofs.lemmas.Bool.{le-ltb, lt-ltb, not-true, not_from_true, or_from}
use Rattle.std.proofs.lemmas.List.{append-nil}
use Rattle.std.proofs.lemmas.List.Sums.{sum_by-append}
use Rattle.name_index.specs.Seen.{has}
use Rattle.net_model.specs.Failed.{member_count}
use Rattle.net_model.specs.Limits.{most_listed}
use Rattle.net_model.specs.Lists.{are_distinct}
use Rattle.net_model.specs.declared.Pattern.{Pattern}
use Rattle.net_model.specs.Name.{is_name}
use Rattle.net_reader.specs.Bundles.{IsGathered, in_rising_order, names_none, numbers_of_words}
use Rattle.net_reader.specs.State.{AreTables, bundle_seen}
use Rattle.net_reader.specs.Statements.{Statement, is_unknown, link_names, most_members, numbers_in, pattern_in, pattern_is, pattern_names, patterns_in, patterns_of}
use Rattle.net_reader.specs.Words.{texts_of}
use Rattle.net_reader.specs.declared.refusal.ReadRefusal.TheVariants.{TooMany}
use Rattle.net_reader.specs.declared.refusal.What.TheVariants.{Members, Patterns}
use Rattle.net_reader.proofs.BundleLaws.{AreBundles-from_tables}
use Rattle.net_reader.proofs.Pushes.{each_after-push, flat_map-push}
use Rattle.net_reader.proofs.Tables.{Hears-said, with_statement-refused}
use Rattle.net_reader.proofs.state.note_pattern.Goals as goal
use Rattle.net_reader.proofs.state.note_pattern.Goals.{After-len}

pub numbers_of_words-requires-clause-bundles : goal.numbers_of_words-requires-clause-bundles
numbers_of_words-requires-clause-bundles c = AreBundles-from_tables c.requires.0 c.args.state.now c.requires.1

module _ (c : After-len) (earlier : List Statement) (tables : AreTables earlier c.args.state.now) where
  named : not (list_all is_name (c.args.name.now ∷ texts_of c.args.words.now)) ≡ false
  named = search (rules, tests)

  -- the name is not `none`, nor that of a pattern
  fresh : (bytes_eq c.args.name.now (codes "none") || has (pattern_names earlier) c.args.name.now) ≡ false
  fresh =
      let other : bytes_eq c.args.name.now (codes "none") ≡ false = search (rules, tests) in
      or_from _ _ other (ap (λ (names : List (List ℕ)). has names c.args.name.now) (sym tables.pattern_names) ∙ not-true _ (sym c.in_ok-add.ensures.fresh ∙ (cc)))

  -- the words name links
  known : list_any (is_unknown earlier) (texts_of c.args.words.now) ≡ false
  known =
      (λ i. list_any (names_none (sym tables.link_names i) (sym tables.bundles i)) (texts_of c.args.words.now))
      ∙ not-true _ (sym c.in_ok-numbers.ensures.unknown ∙ ap (λ found. is_some found) c.in-Some.is)

  -- none of which stands twice
  distinct : are_distinct nat_eq c.in-Some.numbers.items ≡ true
  distinct = sym c.in-Some-in_rising_order.ensures.distinct

  -- so their numbers are those that the words name
  gathered : c.in-Some.numbers.items ≡ numbers_in earlier (texts_of c.args.words.now)
  gathered =
      let state = c.args.state.now in
      let told : IsGathered (numbers_of_words state.link_names (map bundle_seen state.bundles.links.items) (texts_of c.args.words.now)) c.in-Some.numbers.items = subst
      (λ (found : Option (Vec ℕ Global)). IfSome found (λ numbers. IsGathered (numbers_of_words state.link_names (map bundle_seen state.bundles.links.items) (texts_of c.args.words.now)) numbers.items))
      c.in-Some.is c.in_ok-numbers.ensures.numbers in
      told.all distinct ∙ (λ i. numbers_of_words (tables.link_names i) (tables.bundles i) (texts_of c.args.words.now))

  once : not (are_distinct nat_eq (numbers_in earlier (texts_of c.args.words.now))) ≡ false
  once = not_from_true _ (ap (λ (numbers : List ℕ). are_distinct nat_eq numbers) (sym gathered) ∙ distinct)

  -- and in rising order they are those of the pattern
  rising : c.in-Some-in_rising_order.links.items ≡ in_rising_order (length (link_names earlier)) (numbers_in earlier (texts_of c.args.words.now))
  rising =
      let within : All (λ number. number < length c.args.state.now.link_names) c.in-Some.numbers.items = subst
      (λ (found : Option (Vec ℕ Global)). IfSome found (λ numbers. All (λ number. number < length c.args.state.now.link_names) numbers.items)) c.in-Some.is c.in_ok-numbers.ensures.within in
      c.in-Some-in_rising_order.ensures.rising (length c.args.state.now.link_names) within ∙ (λ i. in_rising_order (length (tables.link_names i)) (gathered i))

  -- which has so many
  own : length c.in-Some-in_rising_order.links.items ≡ member_count (pattern_in earlier (pattern_is c.args.name.now (texts_of c.args.words.now)))
  own =
      let count : length c.in-Some-in_rising_order.links.items ≡ length (in_rising_order (length (link_names earlier)) (numbers_in earlier (texts_of c.args.words.now))) = ap (λ (links : List ℕ). length links) rising in
      omega (arith, count)

  -- whether there are too many patterns
  many : nat_lt most_listed (length (pattern_names (earlier ++ pattern_is c.args.name.now (texts_of c.args.words.now) ∷ []))) ≡ nat_lt most_listed c.len.result
  many =
      let pattern = pattern_is c.args.name.now (texts_of c.args.words.now) in
      ap (λ (names : List (List ℕ)). nat_lt most_listed (length names))
      (flat_map-push patterns_in earlier pattern ∙ ap (λ (names : List (List ℕ)). names ++ c.args.name.now ∷ []) (sym tables.pattern_names) ∙ sym (c.in_ok-add.ensures.added (cc)))
      ∙ ap (nat_lt most_listed) (sym c.len.ensures.len)

  -- how many links all patterns have then
  sum : member_count (patterns_of (earlier ++ pattern_is c.args.name.now (texts_of c.args.words.now) ∷ [])) ≡ c.args.state.now.members + length c.in-Some-in_rising_order.links.items
  sum =
      let pattern = pattern_is c.args.name.now (texts_of c.args.words.now) in
      let all : member_count (patterns_of (earlier ++ pattern ∷ [])) ≡ member_count (patterns_of earlier) + member_count (pattern_in earlier pattern) = ap member_count (each_after-push pattern_in [] earlier pattern) ∙ sum_by-append (λ (pattern : Pattern). length pattern.links) (patterns_of earlier) (pattern_in earlier pattern) in
      omega (arith, all, own, tables.members)

pub returns-then-len-gt-MOST_LISTED : goal.returns-then-len-gt-MOST_LISTED
returns-then-len-gt-MOST_LISTED c = λ earlier tables memory.
    let at = (goal.at.returns-then-len-gt-MOST_LISTED c).After-len in
    with_statement-refused earlier c.args.line (pattern_is c.args.name.now (texts_of c.args.words.now)) 4 (TooMany c.args.line Patterns)
    (named at earlier tables, (fresh at earlier tables, (known at earlier tables, (once at earlier tables, (many at earlier tables ∙ lt-ltb _ _ c.if-len-gt-MOST_LISTED.true, refl)))))

pub returns-then-state-gt-MOST_MEMBERS : goal.returns-then-state-gt-MOST_MEMBERS
returns-then-state-gt-MOST_MEMBERS c = λ earlier tables memory.
    let at = (goal.at.returns-then-state-gt-MOST_MEMBERS c).After-len in
    let size : c.len-2.result ≡ length c.in-Some-in_rising_order.links.items = omega (arith, c.len-2.ensures, c.in-Some-in_rising_order.links.ok) in
    let over = ap (λ (n : ℕ). nat_lt most_members n) (sum at earlier tables ∙ ap (λ (n : ℕ). c.args.state.now.members + n) (sym size)) ∙ lt-ltb _ _ c.if-state-gt-MOST_MEMBERS.true in
    with_statement-refused earlier c.args.line (pattern_is c.args.name.now (texts_of c.args.words.now)) 5 (TooMany c.args.line Members)
    (named at earlier tables, (fresh at earlier tables, (known at earlier tables, (once at earlier tables, (many at earlier tables ∙ le-ltb _ _ c.if-len-gt-MOST_LISTED.false, (over, refl))))))

pub returns : goal.returns
returns c = λ earlier tables.
    let at = (goal.at.returns c).After-len in
    let size : c.len-2.result ≡ length c.in-Some-in_rising_order.links.items = omega (arith, c.len-2.ensures, c.in-Some-in_rising_order.links.ok) in
    let within = ap (λ (n : ℕ). nat_lt most_members n) (sum at earlier tables ∙ ap (λ (n : ℕ). c.args.state.now.members + n) (sym size)) ∙ le-ltb _ _ c.if-state-gt-MOST_MEMBERS.false in
    Hears-said earlier c.args.line (pattern_is c.args.name.now (texts_of c.args.words.now)) c.args.state.now _ tables
    (named at earlier tables, (fresh at earlier tables, (known at earlier tables, (once at earlier tables, (many at earlier tables ∙ le-ltb _ _ c.if-len-gt-MOST_LISTED.false, (within, tt))))))
    (record {
      nodes = refl;
      link_names = sym (append-nil _);
      links = sym (append-nil _);
      bundle_names = sym (append-nil _);
      bundles = sym (append-nil _);
      pattern_names = c.in_ok-add.ensures.added (cc);
      patterns = c.in_ok-push.ensures.items
          ∙ (λ i. c.args.state.now.patterns.items ++ record { name = c.in_ok-name.ensures.gives i; links = (c.of-links.ensures ∙ rising at earlier tables) i } ∷ []);
      members = ap (λ (n : ℕ). c.args.state.now.members + n) (size ∙ own at earlier tables);
      sinks = sym (append-nil _);
      source = sym (append-nil _);
      field = sym (append-nil _);
      rate = sym (append-nil _);
      fails_each = sym (or-false _);
      few_nodes = tables.few_nodes;
      few_links = tables.few_links;
      few_patterns = rw (← c.len.ensures.len) c.if-len-gt-MOST_LISTED.false;
      few_members = c.if-state-gt-MOST_MEMBERS.false;
    })
