-- How long names are, and texts of many names.
use Rattle.std.specs.Prelude.{◌≡◌, ◌≤◌, ◌*◌, ℕ, zero, suc, Bool, true, List, [], ◌∷◌, ◌++◌, filter, length, map, slice_get, slice_index, unwrap_or}
use Rattle.std.specs.List.{list_all, range_with_len}
use Rattle.std.specs.Option.{option_map_or}
use Rattle.std.proofs.Common.{arith, length-append}
use Rattle.std.proofs.lemmas.Bool.{and_parts, leb-true}
use Rattle.std.proofs.lemmas.List.Sums.{length-filter, count_by-le-length}
use Rattle.std.proofs.lemmas.List.FromFn.{length-range_with_len}
use Rattle.net_model.specs.Flows.{is_on}
use Rattle.net_model.specs.Name.{is_name}
use Rattle.net_model.specs.declared.Demand.{Demand}
use Rattle.net_model.specs.declared.net.Net.{Net}
use Rattle.name_texts.specs.Names.{node_name, link_name, pattern_name, sink_name, with_spaces, on_lines, links_text, side_text, demand_text}

-- what passes for a name has at most 32 bytes
name-short : (name : List ℕ) → is_name name ≡ true → length name ≤ 32
name-short name is = leb-true _ _ (and_parts _ _ (and_parts _ _ is).0).1

-- the names of items, each of which is a name
item_name-short : {X : Type 0} (name : X → List ℕ) (items : List X) (item : ℕ) → list_all is_name (map name items) ≡ true → length (option_map_or name (slice_get items item) []) ≤ 32
item_name-short name [] item all = omega arith
item_name-short name (one ∷ items) zero all = name-short (name one) (and_parts _ _ all).0
item_name-short name (one ∷ items) (suc item) all = item_name-short name items item (and_parts _ _ all).1

name_at-short : (names : List (List ℕ)) (node : ℕ) → list_all is_name names ≡ true → length (unwrap_or (slice_get names node) []) ≤ 32
name_at-short [] node all = omega arith
name_at-short (name ∷ names) zero all = name-short name (and_parts _ _ all).0
name_at-short (name ∷ names) (suc node) all = name_at-short names node (and_parts _ _ all).1

-- a name has at most 32 bytes
pub node_name-short : (net : Net) (node : ℕ) → length (node_name net node) ≤ 32
node_name-short net node = name_at-short net.nodes node (and_parts _ _ net.network.node_names).0

pub link_name-short : (net : Net) (link : ℕ) → length (link_name net link) ≤ 32
link_name-short net link = item_name-short (λ l. l.name) net.links link (and_parts _ _ net.network.link_names).0

pub pattern_name-short : (net : Net) (pattern : ℕ) → length (pattern_name net pattern) ≤ 32
pattern_name-short net pattern = item_name-short (λ p. p.name) net.patterns pattern (and_parts _ _ net.network.pattern_names).0

module _ {X : Type 0} (name : X → List ℕ) (short : (item : X) → length (name item) ≤ 32) where
  with_spaces-short : (items : List X) → length (with_spaces (map name items)) ≤ 33 * length items
  with_spaces-short [] = omega arith
  with_spaces-short (item ∷ items) = omega (arith, short item, with_spaces-short items, length-append (name item) (with_spaces (map name items)))

  on_lines-short : (items : List X) → length (on_lines (map name items)) ≤ 33 * length items
  on_lines-short [] = omega arith
  on_lines-short (item ∷ items) = omega (arith, short item, on_lines-short items, length-append (name item ++ 10 ∷ []) (on_lines (map name items)), length-append (name item) (10 ∷ []))

-- each link takes at most 33 bytes, each node of a network too
pub links_text-short : (net : Net) (links : List ℕ) → length (links_text net links) ≤ 33 * length links
links_text-short net links = with_spaces-short (link_name net) (link_name-short net) links

pub side_text-short : (net : Net) (side : List Bool) → length (side_text net side) ≤ 33 * length net.nodes
side_text-short net side =
    let nodes = range_with_len 0 (length net.nodes) in
    omega (arith, with_spaces-short (node_name net) (node_name-short net) (filter (is_on side) nodes), length-filter (is_on side) nodes, count_by-le-length (is_on side) nodes, length-range_with_len 0 (length net.nodes))

pub demand_text-short : (net : Net) (demand : Demand) → length (demand_text net demand) ≤ 65
demand_text-short net demand =
    omega (arith, node_name-short net (slice_index net.sinks demand.sink), pattern_name-short net demand.pattern, length-append (sink_name net demand.sink) (32 ∷ pattern_name net demand.pattern))
