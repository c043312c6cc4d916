-- A network: named nodes, named links between them, one source, sinks, and patterns of failed links.
use Rattle.std.specs.Prelude.{ℕ, Bool, false, not, ◌<◌, ◌≤◌, ◌&&◌, ◌==◌, nat_lt, nat_eq, IsTrue, List, [], ◌∷◌, length, map, codes, Option}
use Rattle.std.specs.Option.{ForSome}
use Rattle.std.specs.List.{list_all}
use Rattle.std.specs.Str.{bytes_eq}
use Rattle.net_model.specs.Limits.{highest_rate, most_links, most_nodes, most_patterns}
use Rattle.net_model.specs.Lists.{are_distinct, is_rising}
use Rattle.net_model.specs.Name.{is_name}
use Rattle.net_model.specs.declared.Link.{Link}
use Rattle.net_model.specs.declared.Pattern.{Pattern}

-- the names are names, and no two of them are equal
abbrev pub are_names : List (List ℕ) → Bool
are_names names = list_all is_name names && are_distinct bytes_eq names

-- the link leads from one of so many nodes to another
abbrev pub is_link_among : ℕ → Link → Bool
is_link_among nodes link = nat_lt link.tail nodes && nat_lt link.head nodes && not (link.tail == link.head)

-- the node is one of so many, and not the source
abbrev pub is_sink_among : ℕ → ℕ → ℕ → Bool
is_sink_among nodes source sink = nat_lt sink nodes && not (sink == source)

-- the pattern has at least one of so many links, and its links rise
abbrev pub is_listed_pattern : ℕ → Pattern → Bool
is_listed_pattern links pattern =
    nat_lt 0 (length pattern.links) && is_rising pattern.links && list_all (λ link. nat_lt link links) pattern.links

-- the first pattern is `none` and has no links, each further one is a listed pattern
abbrev pub are_patterns : ℕ → List Pattern → Bool
are_patterns links [] = false
are_patterns links (none ∷ listed) =
    bytes_eq none.name (codes "none") && (length none.links == 0) && list_all (is_listed_pattern links) listed

pub record IsNetwork (nodes : List (List ℕ)) (links : List Link) (source : ℕ) (sinks : List ℕ) (patterns : List Pattern) : Type 0 where
  pub node_names : IsTrue (are_names nodes)
  pub link_names : IsTrue (are_names (map (λ link. link.name) links))
  pub link_ends : IsTrue (list_all (is_link_among (length nodes)) links)
  pub source_node : source < length nodes
  pub some_sink : 0 < length sinks
  pub sink_nodes : IsTrue (list_all (is_sink_among (length nodes) source) sinks)
  pub distinct_sinks : IsTrue (are_distinct nat_eq sinks)
  pub pattern_names : IsTrue (are_names (map (λ pattern. pattern.name) patterns))
  pub pattern_links : IsTrue (are_patterns (length links) patterns)
  pub few_nodes : length nodes ≤ most_nodes
  pub few_links : length links ≤ most_links
  pub few_patterns : length patterns ≤ most_patterns

-- the rate that is wanted of a network's codes, where there is one
abbrev pub IsWanted : Option ℕ → Type 0
IsWanted wanted = ForSome wanted (λ rate. (1 ≤ rate) × (rate ≤ highest_rate))
