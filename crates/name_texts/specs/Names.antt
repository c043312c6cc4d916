-- The names of a network's nodes, links and patterns, and texts that are made of them.
use Rattle.std.specs.Prelude.{ℕ, Bool, List, [], ◌∷◌, ◌++◌, filter, flat_map, length, map, slice_get, slice_index, unwrap_or}
use Rattle.std.specs.List.{range_with_len}
use Rattle.std.specs.Option.{option_map_or}
use Rattle.net_model.specs.Flows.{is_on}
use Rattle.net_model.specs.declared.Demand.{Demand}
use Rattle.net_model.specs.declared.net.Net.{Net}

-- the name of a node, of a link and of a pattern, by its number
abbrev pub node_name : Net → ℕ → List ℕ
node_name net node = unwrap_or (slice_get net.nodes node) []

abbrev pub link_name : Net → ℕ → List ℕ
link_name net link = option_map_or (λ l. l.name) (slice_get net.links link) []

abbrev pub pattern_name : Net → ℕ → List ℕ
pattern_name net pattern = option_map_or (λ p. p.name) (slice_get net.patterns pattern) []

-- the name of a sink, by its place
abbrev pub sink_name : Net → ℕ → List ℕ
sink_name net sink = node_name net (slice_index net.sinks sink)

-- names, each after a space, and each on a line of its own
abbrev pub with_spaces : List (List ℕ) → List ℕ
with_spaces names = flat_map (λ name. 32 ∷ name) names

abbrev pub on_lines : List (List ℕ) → List ℕ
on_lines names = flat_map (λ name. name ++ 10 ∷ []) names

-- links, each on a line of its own, and each after a space
abbrev pub link_lines : Net → List ℕ → List ℕ
link_lines net links = on_lines (map (link_name net) links)

abbrev pub links_text : Net → List ℕ → List ℕ
links_text net links = with_spaces (map (link_name net) links)

-- the nodes of a side in rising order, and their names, each after a space
abbrev pub nodes_on : Net → List Bool → List ℕ
nodes_on net side = filter (is_on side) (range_with_len 0 (length net.nodes))

abbrev pub side_text : Net → List Bool → List ℕ
side_text net side = with_spaces (map (node_name net) (nodes_on net side))

-- a demand: its sink and its pattern
abbrev pub demand_text : Net → Demand → List ℕ
demand_text net demand = sink_name net demand.sink ++ 32 ∷ pattern_name net demand.pattern
