-- What a network text stands for.
use Rattle.std.specs.Prelude.{ℕ, ◌+◌, ◌==◌, ◌||◌, Bool, nat_lt, List, [], ◌∷◌, ◌++◌, length, map, codes, Option, Some, None, Result, Ok, Err, if◌then◌else◌, position, slice_get, unwrap_or}
use Rattle.std.specs.List.{flat_map}
use Rattle.std.specs.Str.{bytes_eq}
use Rattle.net_model.specs.Limits.{most_listed}
use Rattle.net_model.specs.declared.Link.{Link}
use Rattle.net_model.specs.declared.Pattern.{Pattern}
use Rattle.net_model.specs.declared.net.FieldChoice.{FieldChoice}
use Rattle.net_model.specs.declared.net.FieldChoice.TheVariants as choice
use Rattle.net_model.specs.declared.net.Net.{Net}
use Rattle.net_reader.specs.Lines.{lines_of}
use Rattle.name_index.specs.Seen.{has}
use Rattle.net_reader.specs.Statements.{Statement, Heard, link_is, field_bits, has_fail_each, link_names, links_named, nodes_of, pattern_names, patterns_of, rates_of, read_line, sink_names, source_names}
use Rattle.net_reader.specs.declared.refusal.ReadRefusal.{ReadRefusal}
use Rattle.net_reader.specs.declared.refusal.ReadRefusal.TheVariants.{NoSource, NoSink, SinkIsSource, PatternNamed, TooManyPatterns}

-- the greatest length of a network text
abbrev pub net_limit : ℕ
net_limit = 4194304

-- what is done with what was said, if it was good
abbrev pub and_then : Heard → (List Statement → Heard) → Heard
and_then (Err refusal) next = Err refusal
and_then (Ok statements) next = next statements

-- what lines say, from the line of a number on, or the refusal of the first that isn't good
abbrev pub read_lines : List Statement → ℕ → List (List ℕ) → Heard
read_lines earlier number [] = Ok earlier
read_lines earlier number (line ∷ lines) =
    and_then (read_line earlier number line) (λ statements.
    read_lines (earlier ++ statements) (number + 1) lines)

-- the number of a name among names
abbrev pub number_in : List (List ℕ) → List ℕ → ℕ
number_in names name = unwrap_or (position (bytes_eq name) names) 0

-- the links of a statement, with a bundle written out
abbrev pub links_with : List (List ℕ) → Statement → List Link
links_with nodes (link_is name tail head bundle) =
    let tail = number_in nodes tail in
    let head = number_in nodes head in
    map (λ name. record { name = name; tail = tail; head = head }) (links_named name bundle)
links_with nodes statement = []

-- those of statements, in the order of their lines
abbrev pub links_of : List (List ℕ) → List Statement → List Link
links_of nodes = flat_map (links_with nodes)

-- for each link of these names a pattern in which it fails alone, with its name
abbrev pub each_alone : List (List ℕ) → ℕ → List Pattern
each_alone [] link = []
each_alone (name ∷ names) link = record { name = name; links = link ∷ [] } ∷ each_alone names (link + 1)

-- the patterns of statements: `none`, which has no links, the listed ones, and those in which each link fails alone, where that is
-- said
abbrev pub pattern_table : List Statement → List Pattern
pattern_table statements =
    record { name = codes "none"; links = [] } ∷ patterns_of statements
    ++ (if has_fail_each statements then each_alone (link_names statements) 0 else [])

-- the field that is written, if one is
abbrev pub choice_in : List ℕ → FieldChoice
choice_in [] = choice.Any
choice_in (bits ∷ more) = if bits == 8 then choice.Eight else choice.Sixteen

-- what a network consists of
pub record Parts : Type 0 where
  pub nodes : List (List ℕ)
  pub links : List Link
  pub source : ℕ
  pub sinks : List ℕ
  pub patterns : List Pattern
  pub field : FieldChoice
  pub wanted : Option ℕ

abbrev pub parts_of : Net → Parts
parts_of net = record {
  nodes = net.nodes;
  links = net.links;
  source = net.source;
  sinks = net.sinks;
  patterns = net.patterns;
  field = net.field;
  wanted = net.wanted;
}

-- the parts that statements with this source stand for
abbrev pub parts_in : List Statement → List ℕ → Parts
parts_in statements source = record {
  nodes = nodes_of statements;
  links = links_of (nodes_of statements) statements;
  source = number_in (nodes_of statements) source;
  sinks = map (number_in (nodes_of statements)) (sink_names statements);
  patterns = pattern_table statements;
  field = choice_in (field_bits statements);
  wanted = slice_get (rates_of statements) 0;
}

-- a name is `none` or that of a listed pattern
abbrev pub names_pattern : List Statement → List ℕ → Bool
names_pattern statements name = bytes_eq name (codes "none") || has (pattern_names statements) name

-- what is wrong where each link is to fail alone: the first link whose name is a pattern's, or the count of patterns, where there
-- are too many
abbrev pub alone_fault : List Statement → Option ReadRefusal
alone_fault statements = named (position (names_pattern statements) (link_names statements))
  where
    named : Option ℕ → Option ReadRefusal
    named (Some link) = Some (PatternNamed link)
    named None =
        let count = length (pattern_names statements) + length (link_names statements) in
        if nat_lt most_listed count then Some (TooManyPatterns count) else None

-- the parts, unless there is a fault
abbrev pub unless_fault : Option ReadRefusal → Parts → Result Parts ReadRefusal
unless_fault None parts = Ok parts
unless_fault (Some refusal) parts = Err refusal

-- what statements stand for, or what is wrong with them as a whole
abbrev pub whole_of : List Statement → List (List ℕ) → List (List ℕ) → Result Parts ReadRefusal
whole_of statements [] sinks = Err NoSource
whole_of statements (source ∷ more) [] = Err NoSink
whole_of statements (source ∷ more) (sink ∷ sinks) =
    if has (sink ∷ sinks) source then Err (SinkIsSource (number_in (nodes_of statements) source))
    else unless_fault (if has_fail_each statements then alone_fault statements else None) (parts_in statements source)

abbrev pub whole_said : List Statement → Result Parts ReadRefusal
whole_said statements = whole_of statements (source_names statements) (sink_names statements)

abbrev pub whole_in : Heard → Result Parts ReadRefusal
whole_in (Err refusal) = Err refusal
whole_in (Ok statements) = whole_said statements

-- the network that a text stands for, by its parts, or why there is none
abbrev pub network_of : List ℕ → Result Parts ReadRefusal
network_of text = whole_in (read_lines [] 1 (lines_of text))

-- names of what was read, none where a line isn't good
abbrev pub names_read : (List Statement → List (List ℕ)) → Heard → List (List ℕ)
names_read names (Err refusal) = []
names_read names (Ok statements) = names statements

-- the names of the nodes, and of the links, of a text, where each of its lines is good, in order
abbrev pub node_names_of : List ℕ → List (List ℕ)
node_names_of text = names_read nodes_of (read_lines [] 1 (lines_of text))

abbrev pub link_names_of : List ℕ → List (List ℕ)
link_names_of text = names_read link_names (read_lines [] 1 (lines_of text))
