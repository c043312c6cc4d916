-- What a line of a network text says, and what is wrong with it in view of the lines before.
use Rattle.std.specs.Prelude.{ℕ, ◌≤◌, Bool, true, false, not, ◌||◌, ◌+◌, ◌==◌, nat_eq, nat_lt, List, [], ◌∷◌, ◌++◌, length, codes, map, Option, Some, None, IfSome, Result, Ok, Err, if◌then◌else◌}
use Rattle.std.specs.List.{flat_map, list_all, list_any}
use Rattle.std.specs.Option.{option_map}
use Rattle.std.specs.Str.{bytes_eq}
use Rattle.name_index.specs.Seen.{has, distinct_from}
use Rattle.net_model.specs.Failed.{member_count}
use Rattle.net_model.specs.Limits.{highest_rate, most_links, most_listed, most_nodes}
use Rattle.net_model.specs.Lists.{are_distinct}
use Rattle.net_model.specs.Name.{is_name}
use Rattle.net_model.specs.declared.Pattern.{Pattern}
use Rattle.net_reader.specs.Bundles.{Bundle, in_rising_order, made_names, names_none, numbers_of_words}
use Rattle.net_reader.specs.Digits.{number_to}
use Rattle.net_reader.specs.Lines.{content_of, is_text, words_of}
use Rattle.net_reader.specs.declared.refusal.ReadRefusal.{ReadRefusal}
use Rattle.net_reader.specs.declared.refusal.ReadRefusal.TheVariants.{BadByte, BadLine, BadName, DuplicateLink, DuplicatePattern, DuplicateSink, SecondSource, SelfLoop, UnknownLink, RepeatedLink, SecondField, TooMany, SecondRate, SecondFailEach}
use Rattle.net_reader.specs.declared.refusal.What.TheVariants.{Nodes, Links, Patterns, Members}

-- What a line says. A link line is of one link, or of a bundle of so many.
pub data Statement : Type 0 where
  field_is : (bits : ℕ) → Statement
  rate_is : (rate : ℕ) → Statement
  source_is : (node : List ℕ) → Statement
  sink_is : (node : List ℕ) → Statement
  link_is : (name : List ℕ) → (tail : List ℕ) → (head : List ℕ) → (bundle : Option ℕ) → Statement
  pattern_is : (name : List ℕ) → (links : List (List ℕ)) → Statement
  fail_each_is : Statement

-- the statement of a first word and the words after it
abbrev pub field_of : List (List ℕ) → Option Statement
field_of (bits ∷ []) =
    if bytes_eq bits (codes "8") then Some (field_is 8)
    else if bytes_eq bits (codes "16") then Some (field_is 16)
    else None
field_of words = None

abbrev pub rate_of : List (List ℕ) → Option Statement
rate_of (rate ∷ []) = option_map rate_is (number_to highest_rate rate)
rate_of words = None

abbrev pub source_of : List (List ℕ) → Option Statement
source_of (node ∷ []) = Some (source_is node)
source_of words = None

abbrev pub sink_of : List (List ℕ) → Option Statement
sink_of (node ∷ []) = Some (sink_is node)
sink_of words = None

-- how many links a bundle has: `x` and a number
abbrev pub count_of : List ℕ → Option ℕ
count_of [] = None
count_of (letter ∷ digits) = if letter == 120 then number_to most_links digits else None

abbrev pub link_of : List (List ℕ) → Option Statement
link_of (name ∷ tail ∷ head ∷ []) = Some (link_is name tail head None)
link_of (name ∷ tail ∷ head ∷ count ∷ []) = option_map (λ links. link_is name tail head (Some links)) (count_of count)
link_of words = None

abbrev pub pattern_of : List (List ℕ) → Option Statement
pattern_of (name ∷ link ∷ links) = Some (pattern_is name (link ∷ links))
pattern_of words = None

abbrev pub fail_each_of : List (List ℕ) → Option Statement
fail_each_of [] = Some fail_each_is
fail_each_of words = None

-- the statement that words are
abbrev pub statement_of : List ℕ → List (List ℕ) → Option Statement
statement_of first words =
    if bytes_eq first (codes "field") then field_of words
    else if bytes_eq first (codes "rate") then rate_of words
    else if bytes_eq first (codes "source") then source_of words
    else if bytes_eq first (codes "sink") then sink_of words
    else if bytes_eq first (codes "link") then link_of words
    else if bytes_eq first (codes "pattern") then pattern_of words
    else if bytes_eq first (codes "fail-each") then fail_each_of words
    else None

-- a bundle has 1 to so many links as a network may have
abbrev pub IsCounted : Statement → Type 0
IsCounted (link_is name tail head bundle) = IfSome bundle (λ count. (1 ≤ count) × (count ≤ most_links))
IsCounted statement = Unit {0}

-- the names of nodes in a statement, in order
abbrev pub nodes_in : Statement → List (List ℕ)
nodes_in (source_is node) = node ∷ []
nodes_in (sink_is node) = node ∷ []
nodes_in (link_is name tail head bundle) = tail ∷ head ∷ []
nodes_in statement = []

-- the names that a bundle makes, if the line is of one
abbrev pub names_made : List ℕ → Option ℕ → List (List ℕ)
names_made name None = []
names_made name (Some count) = made_names name count

-- the names of the links of a link line: its own, or those that its bundle makes
abbrev pub links_named : List ℕ → Option ℕ → List (List ℕ)
links_named name None = name ∷ []
links_named name (Some count) = made_names name count

-- the names of links, patterns, sinks and sources, and the fields and rates, in a statement
abbrev pub links_in : Statement → List (List ℕ)
links_in (link_is name tail head bundle) = links_named name bundle
links_in statement = []

abbrev pub patterns_in : Statement → List (List ℕ)
patterns_in (pattern_is name links) = name ∷ []
patterns_in statement = []

abbrev pub sinks_in : Statement → List (List ℕ)
sinks_in (sink_is node) = node ∷ []
sinks_in statement = []

abbrev pub sources_in : Statement → List (List ℕ)
sources_in (source_is node) = node ∷ []
sources_in statement = []

abbrev pub fields_in : Statement → List ℕ
fields_in (field_is bits) = bits ∷ []
fields_in statement = []

abbrev pub rates_in : Statement → List ℕ
rates_in (rate_is rate) = rate ∷ []
rates_in statement = []

-- whether a statement lets each link fail by itself
abbrev pub is_fail_each : Statement → Bool
is_fail_each fail_each_is = true
is_fail_each statement = false

-- those of statements
abbrev pub link_names : List Statement → List (List ℕ)
link_names = flat_map links_in

abbrev pub pattern_names : List Statement → List (List ℕ)
pattern_names = flat_map patterns_in

abbrev pub sink_names : List Statement → List (List ℕ)
sink_names = flat_map sinks_in

abbrev pub source_names : List Statement → List (List ℕ)
source_names = flat_map sources_in

abbrev pub field_bits : List Statement → List ℕ
field_bits = flat_map fields_in

abbrev pub rates_of : List Statement → List ℕ
rates_of = flat_map rates_in

abbrev pub has_fail_each : List Statement → Bool
has_fail_each = list_any is_fail_each

-- the nodes of statements, in the order in which their names first appear
abbrev pub nodes_of : List Statement → List (List ℕ)
nodes_of statements = distinct_from [] (flat_map nodes_in statements)

-- what each of the statements gives in view of those before it, where there are earlier ones
abbrev pub each_after : {X : Type 0} → (List Statement → Statement → List X) → List Statement → List Statement → List X
each_after gives earlier [] = []
each_after gives earlier (statement ∷ statements) =
    gives earlier statement ++ each_after gives (earlier ++ statement ∷ []) statements

-- the bundle of a statement, whose first link comes after those of the earlier ones
abbrev pub bundle_in : List Statement → Statement → List Bundle
bundle_in earlier (link_is name tail head (Some count)) = record { name = name; first = length (link_names earlier); count = count } ∷ []
bundle_in earlier statement = []

-- the bundles of statements
abbrev pub bundles_of : List Statement → List Bundle
bundles_of = each_after bundle_in []

abbrev pub bundle_names : List Statement → List (List ℕ)
bundle_names statements = map (λ bundle. bundle.name) (bundles_of statements)

-- the numbers of the links that words name, by earlier statements
abbrev pub numbers_in : List Statement → List (List ℕ) → List ℕ
numbers_in earlier words = numbers_of_words (link_names earlier) (bundles_of earlier) words

-- the listed pattern of a statement: the links that it names among the earlier ones, in rising order
abbrev pub pattern_in : List Statement → Statement → List Pattern
pattern_in earlier (pattern_is name links) =
    record { name = name; links = in_rising_order (length (link_names earlier)) (numbers_in earlier links) } ∷ []
pattern_in earlier statement = []

-- the listed patterns of statements, in the order of their lines
abbrev pub patterns_of : List Statement → List Pattern
patterns_of = each_after pattern_in []

-- the most links in all listed patterns together
abbrev pub most_members : ℕ
most_members = 2097152

-- the most in all patterns of a network that is read: where each link fails alone too, its pattern counts as a listed one
abbrev pub most_read_members : ℕ
most_read_members = most_members + most_listed

-- with this statement there are too many nodes
abbrev pub too_many_nodes : List Statement → Statement → Bool
too_many_nodes earlier statement = nat_lt most_nodes (length (nodes_of (earlier ++ statement ∷ [])))

-- a link or a bundle of earlier statements has the name
abbrev pub is_taken : List Statement → List ℕ → Bool
is_taken earlier name = has (link_names earlier) name || has (bundle_names earlier) name

-- a word names no link
abbrev pub is_unknown : List Statement → List ℕ → Bool
is_unknown earlier word = names_none (link_names earlier) (bundles_of earlier) word

-- whether a fault is there, and the refusal that it is
abbrev pub Fault : Type 0
Fault = Bool × ReadRefusal

-- What is wrong with a statement in view of the earlier ones, in the order in which it is looked
-- for.
abbrev pub faults_of : List Statement → ℕ → Statement → List Fault
faults_of earlier line (field_is bits) =
    (nat_lt 0 (length (field_bits earlier)), SecondField line) ∷ []
faults_of earlier line (rate_is rate) =
    (nat_lt 0 (length (rates_of earlier)), SecondRate line) ∷ []
faults_of earlier line (source_is node) =
    (not (is_name node), BadName line)
    ∷ (nat_lt 0 (length (source_names earlier)), SecondSource line)
    ∷ (too_many_nodes earlier (source_is node), TooMany line Nodes) ∷ []
faults_of earlier line (sink_is node) =
    (not (is_name node), BadName line)
    ∷ (has (sink_names earlier) node, DuplicateSink line)
    ∷ (too_many_nodes earlier (sink_is node), TooMany line Nodes) ∷ []
faults_of earlier line (link_is name tail head bundle) =
    (not (list_all is_name (name ∷ tail ∷ head ∷ names_made name bundle)), BadName line)
    ∷ (list_any (is_taken earlier) (name ∷ names_made name bundle), DuplicateLink line)
    ∷ (bytes_eq tail head, SelfLoop line)
    ∷ (too_many_nodes earlier (link_is name tail head bundle), TooMany line Nodes)
    ∷ (nat_lt most_links (length (link_names (earlier ++ link_is name tail head bundle ∷ []))), TooMany line Links) ∷ []
faults_of earlier line (pattern_is name links) =
    (not (list_all is_name (name ∷ links)), BadName line)
    ∷ (bytes_eq name (codes "none") || has (pattern_names earlier) name, DuplicatePattern line)
    ∷ (list_any (is_unknown earlier) links, UnknownLink line)
    ∷ (not (are_distinct nat_eq (numbers_in earlier links)), RepeatedLink line)
    ∷ (nat_lt most_listed (length (pattern_names (earlier ++ pattern_is name links ∷ []))), TooMany line Patterns)
    ∷ (nat_lt most_members (member_count (patterns_of (earlier ++ pattern_is name links ∷ []))), TooMany line Members) ∷ []
faults_of earlier line fail_each_is =
    (has_fail_each earlier, SecondFailEach line) ∷ []

-- what lines say, or the refusal
abbrev pub Heard : Type 0
Heard = Result (List Statement) ReadRefusal

-- the first fault that is there
abbrev pub refused_first : List Fault → Statement → Heard
refused_first [] statement = Ok (statement ∷ [])
refused_first (fault ∷ faults) statement =
    if fault.0 then Err fault.1 else refused_first faults statement

-- what words say: nothing where there are none
abbrev pub read_words : List Statement → ℕ → List (List ℕ) → Heard
read_words earlier line [] = Ok []
read_words earlier line (first ∷ words) = read_statement (statement_of first words)
  where
    read_statement : Option Statement → Heard
    read_statement None = Err (BadLine line)
    read_statement (Some statement) = refused_first (faults_of earlier line statement) statement

-- what a line says
abbrev pub read_line : List Statement → ℕ → List ℕ → Heard
read_line earlier line bytes =
    let content = content_of bytes in
    if list_all is_text content then read_words earlier line (words_of content)
    else Err (BadByte line)
