-- What holds of statements that are read without a refusal.
use Rattle.std.specs.Prelude.{◌≡◌, ℕ, ◌+◌, ◌≤◌, ◌<◌, ◌==◌, Bool, true, false, not, nat_lt, List, [], ◌∷◌, ◌++◌, length, codes, All, Option, Some, None, Result, Ok, Err, IfOk, IfSome, if◌then◌else◌}
use Rattle.std.specs.List.{flat_map, list_all, list_any}
use Rattle.std.specs.Str.{bytes_eq}
use Rattle.std.proofs.Common.{refl, ap, sym, subst, ◌∙◌, append-nil, arith}
use Rattle.std.proofs.lemmas.Bool.{and_parts, and_from, not-false, not_from_false, or_parts, or_left, ltb-false, ltb-true, lt-ltb}
use Rattle.std.proofs.lemmas.List.{length-append}
use Rattle.std.proofs.lemmas.List.Elements.{All-append, All-cons, All-nil}
use Rattle.std.proofs.lemmas.List.Folds.{list_all-append, list_any-append}
use Rattle.net_model.specs.Failed.{member_count}
use Rattle.net_model.specs.Limits.{highest_rate, most_links, most_listed, most_nodes}
use Rattle.net_model.specs.Lists.{are_distinct, is_among}
use Rattle.net_model.specs.Name.{is_name}
use Rattle.net_model.specs.Network.{are_names, is_listed_pattern}
use Rattle.net_model.specs.declared.Pattern.{Pattern}
use Rattle.net_reader.specs.Lines.{content_of, is_text, words_of}
use Rattle.net_reader.proofs.BundleLaws.{NamesOne, bundles_of-within, names_one}
use Rattle.net_reader.proofs.LinkLines.{link_names-good}
use Rattle.net_model.proofs.RenumberedParts.{is_rising-filter_range, list_all-filter_range, some-filter_range}
use Rattle.net_reader.proofs.NameLaws.{are_distinct-more, are_names-more}
use Rattle.net_reader.proofs.Pushes.{each_after-push, flat_map-push, nodes_of-push}
use Rattle.net_reader.proofs.Tables.{NoneHolds}
use Rattle.net_reader.proofs.WordsSaid.{IsWithinLimits, IsWithinLimits-statement_of}
use Rattle.net_reader.specs.Bundles.{in_rising_order, numbers_named, numbers_of_words}
use Rattle.net_reader.specs.Statements.{Statement, field_is, rate_is, source_is, sink_is, link_is, pattern_is, fail_each_is, bundles_of, is_unknown, most_members, links_in, names_made, nodes_in, numbers_in, link_names, pattern_in, pattern_names, patterns_in, patterns_of, rates_in, rates_of, sink_names, sinks_in, nodes_of, faults_of, refused_first, read_words, read_line, statement_of}
use Rattle.net_reader.specs.Text.{and_then, read_lines}
use Rattle.net_reader.specs.declared.refusal.ReadRefusal.{ReadRefusal}
use Rattle.net_reader.specs.declared.refusal.ReadRefusal.TheVariants.{BadByte, BadLine}

-- a link leads to another node
abbrev pub ends_differ : Statement → Bool
ends_differ (link_is name tail head bundle) = not (bytes_eq tail head)
ends_differ statement = true

-- what holds of statements, each of which has no fault in view of those before it
pub record AreGood (statements : List Statement) : Type 0 where
  pub nodes_named : list_all is_name (flat_map nodes_in statements) ≡ true
  pub links_named : are_names (link_names statements) ≡ true
  pub sinks_distinct : are_distinct bytes_eq (sink_names statements) ≡ true
  pub patterns_named : are_names (codes "none" ∷ pattern_names statements) ≡ true
  pub ends_apart : list_all ends_differ statements ≡ true
  pub patterns_listed : list_all (is_listed_pattern (length (link_names statements))) (patterns_of statements) ≡ true
  pub rates_low : All (λ rate. (1 ≤ rate) × (rate ≤ highest_rate)) (rates_of statements)
  pub few_nodes : length (nodes_of statements) ≤ most_nodes
  pub few_links : length (link_names statements) ≤ most_links
  pub few_patterns : length (pattern_names statements) ≤ most_listed
  pub few_members : member_count (patterns_of statements) ≤ most_members

-- no statements are good
pub AreGood-none : AreGood []
AreGood-none = record {
  nodes_named = refl;
  links_named = refl;
  sinks_distinct = refl;
  patterns_named = refl;
  ends_apart = refl;
  patterns_listed = refl;
  rates_low = All-nil (λ rate. (1 ≤ rate) × (rate ≤ highest_rate));
  few_nodes = omega arith;
  few_links = omega arith;
  few_patterns = omega arith;
  few_members = omega arith;
}

-- ---- patterns

-- a listed pattern is one of more links too
listed-more : (less more : ℕ) → less ≤ more → (patterns : List Pattern) → list_all (is_listed_pattern less) patterns ≡ true → list_all (is_listed_pattern more) patterns ≡ true
listed-more less more within [] all = refl
listed-more less more within (pattern ∷ patterns) all =
    let parts = and_parts (is_listed_pattern less pattern) (list_all (is_listed_pattern less) patterns) all in
    let links = and_parts _ (list_all (λ link. nat_lt link less) pattern.links) parts.0 in
    and_from _ _ (and_from _ _ links.0 (below pattern.links links.1)) (listed-more less more within patterns parts.1)
  where
    below : (links : List ℕ) → list_all (λ link. nat_lt link less) links ≡ true → list_all (λ link. nat_lt link more) links ≡ true
    below [] all = refl
    below (link ∷ links) all =
        let parts = and_parts (nat_lt link less) (list_all (λ link. nat_lt link less) links) all in
        and_from _ _ (lt-ltb link more (omega (arith, ltb-true link less parts.0, within))) (below links parts.1)

-- a number that is among the first of numbers is among all
among-front : (front rest : List ℕ) (number : ℕ) → is_among front number ≡ true → is_among (front ++ rest) number ≡ true
among-front front rest number among = list_any-append (λ one. one == number) front rest ∙ or_left _ _ among

-- words of which each names a link name one, where there is a word
words_name_one : (earlier : List Statement) (words : List (List ℕ)) → 0 < length words → list_any (is_unknown earlier) words ≡ false → NamesOne (length (link_names earlier)) (numbers_in earlier words)
words_name_one earlier [] some known = absurd (omega (arith, some))
words_name_one earlier (word ∷ words) some known =
    let links = link_names earlier in
    let bundles = bundles_of earlier in
    let one = names_one links bundles word (bundles_of-within earlier) (or_parts (is_unknown earlier word) _ known).0 in
    (one.0, one.1, among-front (numbers_named links bundles word) (numbers_of_words links bundles words) one.0 one.2)

-- so they are the links of a listed pattern
words_listed : (earlier : List Statement) (name : List ℕ) (words : List (List ℕ)) → 0 < length words → list_any (is_unknown earlier) words ≡ false
    → list_all (is_listed_pattern (length (link_names earlier))) (pattern_in earlier (pattern_is name words)) ≡ true
words_listed earlier name words some known =
    let count = length (link_names earlier) in
    let numbers = numbers_in earlier words in
    let test : ℕ → Bool = is_among numbers in
    let one = words_name_one earlier words some known in
    let there : 0 < length (in_rising_order count numbers) = some-filter_range test 0 count one.0 (omega arith) (omega (arith, one.1)) one.2 in
    and_from _ _ (and_from _ _ (and_from _ _ (lt-ltb 0 _ there) (is_rising-filter_range test 0 count)) (list_all-filter_range test (λ link. nat_lt link count) 0 count (λ link from below. lt-ltb link count (omega (arith, below))))) refl

-- ---- one more statement without a fault

module _ (earlier : List Statement) (line : ℕ) (good : AreGood earlier) where
  -- the names of its nodes are names
  nodes_named-more : (statement : Statement) → NoneHolds (faults_of earlier line statement) → list_all is_name (nodes_in statement) ≡ true
  nodes_named-more (source_is node) none = and_from _ _ (not-false _ none.0) refl
  nodes_named-more (sink_is node) none = and_from _ _ (not-false _ none.0) refl
  nodes_named-more (link_is name tail head bundle) none =
      let ends = (and_parts (is_name name) (list_all is_name (tail ∷ head ∷ names_made name bundle)) (not-false _ none.0)).1 in
      let rest = and_parts (is_name tail) (list_all is_name (head ∷ names_made name bundle)) ends in
      and_from _ _ rest.0 (and_from _ _ (and_parts (is_name head) (list_all is_name (names_made name bundle)) rest.1).0 refl)
  nodes_named-more (field_is bits) none = refl
  nodes_named-more (rate_is rate) none = refl
  nodes_named-more (pattern_is name links) none = refl
  nodes_named-more fail_each_is none = refl

  -- the links are named
  links_named-more : (statement : Statement) → IsWithinLimits statement → NoneHolds (faults_of earlier line statement) → are_names (link_names earlier ++ links_in statement) ≡ true
  links_named-more (link_is name tail head bundle) within none =
      let own = and_parts (is_name name) (list_all is_name (tail ∷ head ∷ names_made name bundle)) (not-false _ none.0) in
      let rest = and_parts (is_name tail) (list_all is_name (head ∷ names_made name bundle)) own.1 in
      let made = (and_parts (is_name head) (list_all is_name (names_made name bundle)) rest.1).1 in
      link_names-good earlier name bundle within good.links_named (and_from _ _ own.0 made) none.1.0
  links_named-more (field_is bits) within none = rw (append-nil (link_names earlier)) good.links_named
  links_named-more (rate_is rate) within none = rw (append-nil (link_names earlier)) good.links_named
  links_named-more (source_is node) within none = rw (append-nil (link_names earlier)) good.links_named
  links_named-more (sink_is node) within none = rw (append-nil (link_names earlier)) good.links_named
  links_named-more (pattern_is name links) within none = rw (append-nil (link_names earlier)) good.links_named
  links_named-more fail_each_is within none = rw (append-nil (link_names earlier)) good.links_named

  -- the sinks are distinct
  sinks_distinct-more : (statement : Statement) → NoneHolds (faults_of earlier line statement) → are_distinct bytes_eq (sink_names earlier ++ sinks_in statement) ≡ true
  sinks_distinct-more (sink_is node) none = are_distinct-more (sink_names earlier) node good.sinks_distinct none.1.0
  sinks_distinct-more (field_is bits) none = rw (append-nil (sink_names earlier)) good.sinks_distinct
  sinks_distinct-more (rate_is rate) none = rw (append-nil (sink_names earlier)) good.sinks_distinct
  sinks_distinct-more (source_is node) none = rw (append-nil (sink_names earlier)) good.sinks_distinct
  sinks_distinct-more (link_is name tail head bundle) none = rw (append-nil (sink_names earlier)) good.sinks_distinct
  sinks_distinct-more (pattern_is name links) none = rw (append-nil (sink_names earlier)) good.sinks_distinct
  sinks_distinct-more fail_each_is none = rw (append-nil (sink_names earlier)) good.sinks_distinct

  -- the patterns are named
  patterns_named-more : (statement : Statement) → NoneHolds (faults_of earlier line statement) → are_names (codes "none" ∷ pattern_names earlier ++ patterns_in statement) ≡ true
  patterns_named-more (pattern_is name links) none =
      are_names-more (codes "none" ∷ pattern_names earlier) name good.patterns_named (and_parts (is_name name) (list_all is_name links) (not-false _ none.0)).0 none.1.0
  patterns_named-more (field_is bits) none = rw (append-nil (pattern_names earlier)) good.patterns_named
  patterns_named-more (rate_is rate) none = rw (append-nil (pattern_names earlier)) good.patterns_named
  patterns_named-more (source_is node) none = rw (append-nil (pattern_names earlier)) good.patterns_named
  patterns_named-more (sink_is node) none = rw (append-nil (pattern_names earlier)) good.patterns_named
  patterns_named-more (link_is name tail head bundle) none = rw (append-nil (pattern_names earlier)) good.patterns_named
  patterns_named-more fail_each_is none = rw (append-nil (pattern_names earlier)) good.patterns_named

  -- a link leads to another node
  ends_apart-more : (statement : Statement) → NoneHolds (faults_of earlier line statement) → ends_differ statement ≡ true
  ends_apart-more (link_is name tail head bundle) none = not_from_false _ none.1.1.0
  ends_apart-more (field_is bits) none = refl
  ends_apart-more (rate_is rate) none = refl
  ends_apart-more (source_is node) none = refl
  ends_apart-more (sink_is node) none = refl
  ends_apart-more (pattern_is name links) none = refl
  ends_apart-more fail_each_is none = refl

  -- a pattern is a listed one
  pattern_listed : (statement : Statement) → IsWithinLimits statement → NoneHolds (faults_of earlier line statement) → list_all (is_listed_pattern (length (link_names earlier))) (pattern_in earlier statement) ≡ true
  pattern_listed (pattern_is name links) within none = words_listed earlier name links within none.1.1.0
  pattern_listed (field_is bits) within none = refl
  pattern_listed (rate_is rate) within none = refl
  pattern_listed (source_is node) within none = refl
  pattern_listed (sink_is node) within none = refl
  pattern_listed (link_is name tail head bundle) within none = refl
  pattern_listed fail_each_is within none = refl

  -- a wanted rate is low
  rate_low : (statement : Statement) → IsWithinLimits statement → All (λ rate. (1 ≤ rate) × (rate ≤ highest_rate)) (rates_in statement)
  rate_low (rate_is rate) within = All-cons (λ rate. (1 ≤ rate) × (rate ≤ highest_rate)) rate [] within (All-nil (λ rate. (1 ≤ rate) × (rate ≤ highest_rate)))
  rate_low (field_is bits) within = All-nil (λ rate. (1 ≤ rate) × (rate ≤ highest_rate))
  rate_low (source_is node) within = All-nil (λ rate. (1 ≤ rate) × (rate ≤ highest_rate))
  rate_low (sink_is node) within = All-nil (λ rate. (1 ≤ rate) × (rate ≤ highest_rate))
  rate_low (link_is name tail head bundle) within = All-nil (λ rate. (1 ≤ rate) × (rate ≤ highest_rate))
  rate_low (pattern_is name links) within = All-nil (λ rate. (1 ≤ rate) × (rate ≤ highest_rate))
  rate_low fail_each_is within = All-nil (λ rate. (1 ≤ rate) × (rate ≤ highest_rate))

  -- there are few nodes
  few_nodes-more : (statement : Statement) → NoneHolds (faults_of earlier line statement) → length (nodes_of (earlier ++ statement ∷ [])) ≤ most_nodes
  few_nodes-more (source_is node) none = ltb-false _ _ none.1.1.0
  few_nodes-more (sink_is node) none = ltb-false _ _ none.1.1.0
  few_nodes-more (link_is name tail head bundle) none = ltb-false _ _ none.1.1.1.0
  few_nodes-more (field_is bits) none = rw (nodes_of-push earlier (field_is bits)) good.few_nodes
  few_nodes-more (rate_is rate) none = rw (nodes_of-push earlier (rate_is rate)) good.few_nodes
  few_nodes-more (pattern_is name links) none = rw (nodes_of-push earlier (pattern_is name links)) good.few_nodes
  few_nodes-more fail_each_is none = rw (nodes_of-push earlier fail_each_is) good.few_nodes

  -- there are few links
  few_links-more : (statement : Statement) → NoneHolds (faults_of earlier line statement) → length (link_names (earlier ++ statement ∷ [])) ≤ most_links
  few_links-more (link_is name tail head bundle) none = ltb-false _ _ none.1.1.1.1.0
  few_links-more (field_is bits) none = rw (flat_map-push links_in earlier (field_is bits) ∙ append-nil (link_names earlier)) good.few_links
  few_links-more (rate_is rate) none = rw (flat_map-push links_in earlier (rate_is rate) ∙ append-nil (link_names earlier)) good.few_links
  few_links-more (source_is node) none = rw (flat_map-push links_in earlier (source_is node) ∙ append-nil (link_names earlier)) good.few_links
  few_links-more (sink_is node) none = rw (flat_map-push links_in earlier (sink_is node) ∙ append-nil (link_names earlier)) good.few_links
  few_links-more (pattern_is name links) none = rw (flat_map-push links_in earlier (pattern_is name links) ∙ append-nil (link_names earlier)) good.few_links
  few_links-more fail_each_is none = rw (flat_map-push links_in earlier fail_each_is ∙ append-nil (link_names earlier)) good.few_links

  -- there are few patterns
  few_patterns-more : (statement : Statement) → NoneHolds (faults_of earlier line statement) → length (pattern_names (earlier ++ statement ∷ [])) ≤ most_listed
  few_patterns-more (pattern_is name links) none = ltb-false _ _ none.1.1.1.1.0
  few_patterns-more (field_is bits) none = rw (flat_map-push patterns_in earlier (field_is bits) ∙ append-nil (pattern_names earlier)) good.few_patterns
  few_patterns-more (rate_is rate) none = rw (flat_map-push patterns_in earlier (rate_is rate) ∙ append-nil (pattern_names earlier)) good.few_patterns
  few_patterns-more (source_is node) none = rw (flat_map-push patterns_in earlier (source_is node) ∙ append-nil (pattern_names earlier)) good.few_patterns
  few_patterns-more (sink_is node) none = rw (flat_map-push patterns_in earlier (sink_is node) ∙ append-nil (pattern_names earlier)) good.few_patterns
  few_patterns-more (link_is name tail head bundle) none = rw (flat_map-push patterns_in earlier (link_is name tail head bundle) ∙ append-nil (pattern_names earlier)) good.few_patterns
  few_patterns-more fail_each_is none = rw (flat_map-push patterns_in earlier fail_each_is ∙ append-nil (pattern_names earlier)) good.few_patterns

  -- the patterns have few links together
  few_members-more : (statement : Statement) → NoneHolds (faults_of earlier line statement) → member_count (patterns_of (earlier ++ statement ∷ [])) ≤ most_members
  few_members-more (pattern_is name links) none = ltb-false _ _ none.1.1.1.1.1.0
  few_members-more (field_is bits) none = rw (each_after-push pattern_in [] earlier (field_is bits) ∙ append-nil (patterns_of earlier)) good.few_members
  few_members-more (rate_is rate) none = rw (each_after-push pattern_in [] earlier (rate_is rate) ∙ append-nil (patterns_of earlier)) good.few_members
  few_members-more (source_is node) none = rw (each_after-push pattern_in [] earlier (source_is node) ∙ append-nil (patterns_of earlier)) good.few_members
  few_members-more (sink_is node) none = rw (each_after-push pattern_in [] earlier (sink_is node) ∙ append-nil (patterns_of earlier)) good.few_members
  few_members-more (link_is name tail head bundle) none = rw (each_after-push pattern_in [] earlier (link_is name tail head bundle) ∙ append-nil (patterns_of earlier)) good.few_members
  few_members-more fail_each_is none = rw (each_after-push pattern_in [] earlier fail_each_is ∙ append-nil (patterns_of earlier)) good.few_members

  -- so statements with one more are good
  pub AreGood-more : (statement : Statement) → IsWithinLimits statement → NoneHolds (faults_of earlier line statement) → AreGood (earlier ++ statement ∷ [])
  AreGood-more statement within none =
      let links = flat_map-push links_in earlier statement in
      let fewer : length (link_names earlier) ≤ length (link_names (earlier ++ statement ∷ [])) = omega (arith, ap length links, length-append (link_names earlier) (links_in statement)) in
      record {
        nodes_named = rw (flat_map-push nodes_in earlier statement) (list_all-append is_name (flat_map nodes_in earlier) (nodes_in statement) ∙ and_from _ _ good.nodes_named (nodes_named-more statement none));
        links_named = rw links (links_named-more statement within none);
        sinks_distinct = rw (flat_map-push sinks_in earlier statement) (sinks_distinct-more statement none);
        patterns_named = rw (flat_map-push patterns_in earlier statement) (patterns_named-more statement none);
        ends_apart = list_all-append ends_differ earlier (statement ∷ []) ∙ and_from _ _ good.ends_apart (and_from _ _ (ends_apart-more statement none) refl);
        patterns_listed =
            rw (each_after-push pattern_in [] earlier statement)
            (listed-more (length (link_names earlier)) _ fewer (patterns_of earlier ++ pattern_in earlier statement)
            (list_all-append (is_listed_pattern (length (link_names earlier))) (patterns_of earlier) (pattern_in earlier statement) ∙ and_from _ _ good.patterns_listed (pattern_listed statement within none)));
        rates_low = subst (All (λ rate. (1 ≤ rate) × (rate ≤ highest_rate))) (sym (flat_map-push rates_in earlier statement))
            (All-append (λ rate. (1 ≤ rate) × (rate ≤ highest_rate)) (rates_of earlier) (rates_in statement) good.rates_low (rate_low statement within));
        few_nodes = few_nodes-more statement none;
        few_links = few_links-more statement none;
        few_patterns = few_patterns-more statement none;
        few_members = few_members-more statement none;
      }

-- ---- what words say

-- where no fault is there, a statement is said
not_refused : (P : List Statement → Type 0) (statement : Statement) (faults : List (Bool × ReadRefusal)) → (NoneHolds faults → P (statement ∷ [])) → IfOk (refused_first faults statement) P
not_refused P statement [] good = good tt
not_refused P statement (fault ∷ faults) good = either fault.0 refl (λ is. not_refused P statement faults (λ none. good (is, none)))
  where
    either : (b : Bool) → fault.0 ≡ b → (fault.0 ≡ false → IfOk (refused_first faults statement) P) → IfOk (if b then Err fault.1 else refused_first faults statement) P
    either true is rest = tt
    either false is rest = rest is

-- what a statement says, if there is one, is good after what is good
said-good : (earlier : List Statement) (line : ℕ) (said : Option Statement) → AreGood earlier → IfSome said IsWithinLimits
    → IfOk (elim said as (λ x. Result (List Statement) ReadRefusal) [ None ↦ Err (BadLine line) | Some statement ↦ refused_first (faults_of earlier line statement) statement ]) (λ statements. AreGood (earlier ++ statements))
said-good earlier line None good within = tt
said-good earlier line (Some statement) good within =
    not_refused (λ statements. AreGood (earlier ++ statements)) statement (faults_of earlier line statement) (λ none. AreGood-more earlier line good statement within none)

-- so is what words say
read_words-good : (earlier : List Statement) (line : ℕ) (words : List (List ℕ)) → AreGood earlier → IfOk (read_words earlier line words) (λ statements. AreGood (earlier ++ statements))
read_words-good earlier line [] good = rw (append-nil earlier) good
read_words-good earlier line (first ∷ words) good = said-good earlier line (statement_of first words) good (IsWithinLimits-statement_of first words)

-- and what a line says
read_line-good : (earlier : List Statement) (line : ℕ) (bytes : List ℕ) → AreGood earlier → IfOk (read_line earlier line bytes) (λ statements. AreGood (earlier ++ statements))
read_line-good earlier line bytes good = either (list_all is_text (content_of bytes)) (read_words-good earlier line (words_of (content_of bytes)) good)
  where
    either : (b : Bool) → IfOk (read_words earlier line (words_of (content_of bytes))) (λ statements. AreGood (earlier ++ statements))
        → IfOk (if b then read_words earlier line (words_of (content_of bytes)) else Err (BadByte line)) (λ statements. AreGood (earlier ++ statements))
    either true rest = rest
    either false rest = tt

-- what follows if a result and what is done with it are good
and_then-good : (P Q : List Statement → Type 0) (result : Result (List Statement) ReadRefusal) (next : List Statement → Result (List Statement) ReadRefusal)
    → IfOk result P → ((statements : List Statement) → P statements → IfOk (next statements) Q) → IfOk (and_then result next) Q
and_then-good P Q (Err refusal) next good more = tt
and_then-good P Q (Ok statements) next good more = more statements good

-- and what lines say
pub read_lines-good : (earlier : List Statement) (number : ℕ) (lines : List (List ℕ)) → AreGood earlier → IfOk (read_lines earlier number lines) AreGood
read_lines-good earlier number [] good = good
read_lines-good earlier number (line ∷ lines) good =
    and_then-good (λ statements. AreGood (earlier ++ statements)) AreGood (read_line earlier number line) (λ statements. read_lines (earlier ++ statements) (number + 1) lines)
    (read_line-good earlier number line good) (λ statements more. read_lines-good (earlier ++ statements) (number + 1) lines more)
