-- What is heard of a statement, and the tables with it.
use Rattle.std.specs.Prelude.{◌≡◌, ℕ, ◌+◌, ◌||◌, ◌≤◌, zero, suc, true, false, nat_lt, List, [], ◌∷◌, ◌++◌, length, map, option_to_list, is_some, Option, Some, None, Ok, Err}
use Rattle.std.specs.List.{flat_map}
use Rattle.std.proofs.Common.{refl, ap, sym, ◌∙◌}
use Rattle.std.proofs.lemmas.List.{map-append}
use Rattle.std.proofs.lemmas.List.Sums.{sum_by-append}
use Rattle.net_model.specs.Failed.{member_count}
use Rattle.net_model.specs.Limits.{most_links, most_listed, most_nodes}
use Rattle.net_model.specs.declared.Link.{Link}
use Rattle.net_model.specs.declared.Pattern.{Pattern}
use Rattle.name_index.specs.Seen.{distinct_from}
use Rattle.net_reader.specs.Bundles.{Bundle}
use Rattle.net_reader.specs.declared.refusal.ReadRefusal.{ReadRefusal}
use Rattle.net_reader.specs.declared.state.State.{State}
use Rattle.net_reader.specs.State.{AreTables, bundle_seen, with_statement}
use Rattle.net_reader.specs.Statements.{Statement, Fault, bundle_in, bundles_of, each_after, faults_of, fields_in, is_fail_each, links_in, most_members, nodes_in, nodes_of, pattern_in, patterns_in, patterns_of, rates_in, refused_first, sinks_in, sources_in, too_many_nodes}
use Rattle.net_reader.specs.Text.{and_then, links_of, links_with}
use Rattle.net_reader.proofs.Pushes.{flat_map-push, each_after-push, list_any-push, nodes_of-push, links_of-push}

-- ---- faults

-- no fault is there
abbrev pub NoneHolds : List Fault → Type 0
NoneHolds [] = Unit {0}
NoneHolds (fault ∷ faults) = (fault.0 ≡ false) × NoneHolds faults

-- a statement without faults is said
said_first : (faults : List Fault) (statement : Statement) → NoneHolds faults → refused_first faults statement ≡ Ok (statement ∷ [])
said_first [] statement none = refl
said_first (fault ∷ faults) statement none = rw none.0 (said_first faults statement none.1)

-- the first fault that is there, which has so many before it, is this refusal
abbrev pub IsFirst : ℕ → ReadRefusal → List Fault → Type 0
IsFirst place refusal [] = ⊥
IsFirst zero refusal (fault ∷ faults) = (fault.0 ≡ true) × (fault.1 ≡ refusal)
IsFirst (suc place) refusal (fault ∷ faults) = (fault.0 ≡ false) × IsFirst place refusal faults

-- a statement with faults is refused by the first
refused_by : (place : ℕ) (refusal : ReadRefusal) (faults : List Fault) (statement : Statement) → IsFirst place refusal faults → refused_first faults statement ≡ Err refusal
refused_by place refusal [] statement first = absurd first
refused_by zero refusal (fault ∷ faults) statement first = rw first.0 (ap (λ (why : ReadRefusal). Err why) first.1)
refused_by (suc place) refusal (fault ∷ faults) statement first = rw first.0 (refused_by place refusal faults statement first.1)

module _ (earlier : List Statement) (line : ℕ) (statement : Statement) where
  -- so it is heard after the earlier ones
  with_statement-said : NoneHolds (faults_of earlier line statement) → with_statement line statement earlier ≡ Ok (earlier ++ statement ∷ [])
  with_statement-said none =
      ap (λ said. and_then said (λ statements. Ok (earlier ++ statements))) (said_first (faults_of earlier line statement) statement none)

  -- and so it is refused
  pub with_statement-refused : (place : ℕ) (refusal : ReadRefusal) → IsFirst place refusal (faults_of earlier line statement) → with_statement line statement earlier ≡ Err refusal
  with_statement-refused place refusal first =
      ap (λ said. and_then said (λ statements. Ok (earlier ++ statements))) (refused_by place refusal (faults_of earlier line statement) statement first)

-- ---- tables

-- The new state has what the old one has, and what a statement more gives after earlier ones.
pub record Adds (earlier : List Statement) (more : Statement) (old new : State) : Type 0 where
  pub nodes : new.nodes ≡ distinct_from old.nodes (nodes_in more)
  pub link_names : new.link_names ≡ old.link_names ++ links_in more
  pub links : new.links.items ≡ old.links.items ++ links_with new.nodes more
  pub bundle_names : new.bundles.names ≡ old.bundles.names ++ map (λ bundle. bundle.name) (bundle_in earlier more)
  pub bundles : map bundle_seen new.bundles.links.items ≡ map bundle_seen old.bundles.links.items ++ bundle_in earlier more
  pub pattern_names : new.pattern_names ≡ old.pattern_names ++ patterns_in more
  pub patterns : new.patterns.items ≡ old.patterns.items ++ pattern_in earlier more
  pub members : new.members ≡ old.members + member_count (pattern_in earlier more)
  pub sinks : new.sinks ≡ old.sinks ++ sinks_in more
  pub source : map (λ name. name.now) (option_to_list new.source) ≡ map (λ name. name.now) (option_to_list old.source) ++ sources_in more
  pub field : option_to_list new.field ≡ option_to_list old.field ++ fields_in more
  pub rate : option_to_list new.rate ≡ option_to_list old.rate ++ rates_in more
  pub fails_each : new.fails_each ≡ (old.fails_each || is_fail_each more)
  pub few_nodes : length new.nodes ≤ most_nodes
  pub few_links : length new.link_names ≤ most_links
  pub few_patterns : length new.pattern_names ≤ most_listed
  pub few_members : new.members ≤ most_members

-- a table with what a statement more gives, by what gives it
more_of : {X : Type 0} (gives : Statement → List X) (earlier : List Statement) (more : Statement) (old new : List X) → old ≡ flat_map gives earlier → new ≡ old ++ gives more → new ≡ flat_map gives (earlier ++ more ∷ [])
more_of gives earlier more old new same added = added ∙ ap (λ l. l ++ gives more) same ∙ sym (flat_map-push gives earlier more)

-- and by what gives it in view of the earlier statements
more_after : {X : Type 0} (gives : List Statement → Statement → List X) (earlier : List Statement) (more : Statement) (old new : List X) → old ≡ each_after gives [] earlier → new ≡ old ++ gives earlier more
    → new ≡ each_after gives [] (earlier ++ more ∷ [])
more_after gives earlier more old new same added = added ∙ ap (λ l. l ++ gives earlier more) same ∙ sym (each_after-push gives [] earlier more)

-- the tables with a statement more
AreTables-more : (earlier : List Statement) (more : Statement) (old new : State) → AreTables earlier old → Adds earlier more old new → AreTables (earlier ++ more ∷ []) new
AreTables-more earlier more old new tables adds =
    let nodes : new.nodes ≡ nodes_of (earlier ++ more ∷ []) = adds.nodes ∙ ap (λ (names : List (List ℕ)). distinct_from names (nodes_in more)) tables.nodes ∙ sym (nodes_of-push earlier more) in
    let bundles : List Bundle = bundles_of earlier in
    record {
      nodes = nodes;
      link_names = more_of links_in earlier more old.link_names new.link_names tables.link_names adds.link_names;
      links = adds.links ∙ ap (λ (links : List Link). links ++ links_with new.nodes more) tables.links
          ∙ ap (λ (names : List (List ℕ)). links_of (nodes_of earlier) earlier ++ links_with names more) nodes ∙ sym (links_of-push earlier more);
      bundle_names = adds.bundle_names ∙ ap (λ (names : List (List ℕ)). names ++ map (λ bundle. bundle.name) (bundle_in earlier more)) tables.bundle_names
          ∙ sym (map-append (λ (bundle : Bundle). bundle.name) bundles (bundle_in earlier more)) ∙ ap (λ (all : List Bundle). map (λ bundle. bundle.name) all) (sym (each_after-push bundle_in [] earlier more));
      bundles = more_after bundle_in earlier more (map bundle_seen old.bundles.links.items) (map bundle_seen new.bundles.links.items) tables.bundles adds.bundles;
      pattern_names = more_of patterns_in earlier more old.pattern_names new.pattern_names tables.pattern_names adds.pattern_names;
      patterns = more_after pattern_in earlier more old.patterns.items new.patterns.items tables.patterns adds.patterns;
      members = adds.members ∙ ap (λ (n : ℕ). n + member_count (pattern_in earlier more)) tables.members
          ∙ sym (sum_by-append (λ (pattern : Pattern). length pattern.links) (patterns_of earlier) (pattern_in earlier more)) ∙ ap member_count (sym (each_after-push pattern_in [] earlier more));
      sinks = more_of sinks_in earlier more old.sinks new.sinks tables.sinks adds.sinks;
      source = more_of sources_in earlier more _ _ tables.source adds.source;
      field = more_of fields_in earlier more _ _ tables.field adds.field;
      rate = more_of rates_in earlier more _ _ tables.rate adds.rate;
      fails_each = adds.fails_each ∙ ap (λ b. b || is_fail_each more) tables.fails_each ∙ sym (list_any-push is_fail_each earlier more);
      few_nodes = adds.few_nodes;
      few_links = adds.few_links;
      few_patterns = adds.few_patterns;
      few_members = adds.few_members;
    }

-- so a statement without faults is heard, where the new state adds it
pub Hears-said : (earlier : List Statement) (line : ℕ) (statement : Statement) (old new : State) → AreTables earlier old → NoneHolds (faults_of earlier line statement) → Adds earlier statement old new
    → (statements : List Statement) × (with_statement line statement earlier ≡ Ok statements) × AreTables statements new
Hears-said earlier line statement old new tables none adds =
    (earlier ++ statement ∷ [], with_statement-said earlier line statement none, AreTables-more earlier statement old new tables adds)

-- ---- what the tables say of the earlier statements

module _ (earlier : List Statement) (more : Statement) (old : State) (tables : AreTables earlier old) where
  -- whether there are too many nodes
  pub too_many_nodes-is : (nodes : List (List ℕ)) → nodes ≡ distinct_from old.nodes (nodes_in more) → too_many_nodes earlier more ≡ nat_lt most_nodes (length nodes)
  too_many_nodes-is nodes grown =
      ap (λ (names : List (List ℕ)). nat_lt most_nodes (length names))
      (nodes_of-push earlier more ∙ ap (λ (names : List (List ℕ)). distinct_from names (nodes_in more)) (sym tables.nodes) ∙ sym grown)

-- the list of no option
pub none_listed : {X : Type 0} (one : Option X) → is_some one ≡ false → option_to_list one ≡ []
none_listed None e = refl
none_listed (Some x) e = absurd cc
