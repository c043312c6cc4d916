-- What the reader keeps of the statements so far.
use Rattle.std.specs.Prelude.{◌≡◌, ◌≤◌, ◌+◌, ◌||◌, ℕ, Bool, All, length, List, ◌++◌, map, option_to_list, Result, Ok, Err}
use Rattle.name_index.specs.Seen.{has}
use Rattle.net_model.specs.Failed.{member_count}
use Rattle.net_model.specs.Limits.{most_links, most_listed, most_nodes}
use Rattle.net_reader.specs.declared.refusal.ReadRefusal.{ReadRefusal}
use Rattle.net_reader.specs.declared.bundles.BundleLinks.{BundleLinks}
use Rattle.net_reader.specs.declared.bundles.Bundles.{Bundles}
use Rattle.net_reader.specs.declared.state.State.{State}
use Rattle.net_reader.specs.Bundles.{Bundle}
use Rattle.net_reader.specs.Gives.{Fails}
use Rattle.net_reader.specs.Statements.{Statement, Heard, bundle_names, bundles_of, faults_of, field_bits, has_fail_each, link_names, most_members, nodes_of, pattern_names, patterns_of, rates_of, read_line, read_words, refused_first, sink_names, source_names}
use Rattle.net_reader.specs.Text.{and_then, links_of, read_lines}

-- the bundle of a value of the reader
abbrev pub bundle_seen : BundleLinks → Bundle
bundle_seen bundle = record { name = bundle.name.now; first = bundle.first; count = bundle.count }

-- bundles with their names, whose links are among so many
pub record AreBundles (links : List (List ℕ)) (bundles : Bundles) : Type 0 where
  pub names : bundles.names ≡ map (λ bundle. bundle.name.now) bundles.links.items
  pub within : All (λ bundle. bundle.first + bundle.count ≤ length links) bundles.links.items

-- the tables of the state are those of these statements
pub record AreTables (statements : List Statement) (state : State) : Type 0 where
  pub nodes : state.nodes ≡ nodes_of statements
  pub link_names : state.link_names ≡ link_names statements
  pub links : state.links.items ≡ links_of (nodes_of statements) statements
  pub bundle_names : state.bundles.names ≡ bundle_names statements
  pub bundles : map bundle_seen state.bundles.links.items ≡ bundles_of statements
  pub pattern_names : state.pattern_names ≡ pattern_names statements
  pub patterns : state.patterns.items ≡ patterns_of statements
  pub members : state.members ≡ member_count (patterns_of statements)
  pub sinks : state.sinks ≡ sink_names statements
  pub source : map (λ name. name.now) (option_to_list state.source) ≡ source_names statements
  pub field : option_to_list state.field ≡ field_bits statements
  pub rate : option_to_list state.rate ≡ rates_of statements
  pub fails_each : state.fails_each ≡ has_fail_each statements
  pub few_nodes : length state.nodes ≤ most_nodes
  pub few_links : length state.link_names ≤ most_links
  pub few_patterns : length state.pattern_names ≤ most_listed
  pub few_members : state.members ≤ most_members

-- the state has the tables of some statements
abbrev pub IsState : State → Type 0
IsState state = (statements : List Statement) × AreTables statements state

-- earlier statements with a further one, if that is good
abbrev pub with_statement : ℕ → Statement → List Statement → Heard
with_statement line statement earlier =
    and_then (refused_first (faults_of earlier line statement) statement) (λ statements. Ok (earlier ++ statements))

-- with what words say
abbrev pub with_words : ℕ → List (List ℕ) → List Statement → Heard
with_words line words earlier =
    and_then (read_words earlier line words) (λ statements. Ok (earlier ++ statements))

-- with what a line says
abbrev pub with_line : ℕ → List ℕ → List Statement → Heard
with_line line bytes earlier =
    and_then (read_line earlier line bytes) (λ statements. Ok (earlier ++ statements))

-- with what lines say, the first of which has the number 1
abbrev pub with_lines : List (List ℕ) → List Statement → Heard
with_lines lines earlier = read_lines earlier 1 lines

-- what the reader answers, against what was heard: a refusal, unless memory ran out, or else the new state has the tables of all
-- that was said
abbrev pub Answers : {X : Type 0} → Result X ReadRefusal → State → Heard → Type 0
Answers (Err refusal) new heard = Fails refusal heard
Answers (Ok x) new heard = (statements : List Statement) × (heard ≡ Ok statements) × AreTables statements new

-- whatever statements the old state has the tables of, the reader answers what is heard after them
abbrev pub Hears : {X : Type 0} → Result X ReadRefusal → State → State → (List Statement → Heard) → Type 0
Hears result old new hears =
    (earlier : List Statement) → AreTables earlier old → Answers result new (hears earlier)

-- a link or a bundle has the name
abbrev pub is_held : State → List ℕ → Bool
is_held state name = has state.link_names name || has state.bundles.names name
