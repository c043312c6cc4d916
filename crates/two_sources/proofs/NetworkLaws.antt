-- A network with one node before two is a network.
use Rattle.std.specs.Prelude.{◌≡◌, ℕ, ◌+◌, ◌<◌, ◌≤◌, true, false, ◌&&◌, nat_lt, List, [], ◌∷◌, ◌++◌, length, map}
use Rattle.std.specs.List.{list_all, list_any}
use Rattle.std.specs.Str.{bytes_eq}
use Rattle.std.proofs.Common.{refl, ap, ◌∙◌, arith}
use Rattle.std.proofs.lemmas.Bool.{and_from, and_parts, lt-ltb, ltb-true, ne_eqb, not_from_false, or_parts}
use Rattle.std.proofs.lemmas.Cmp.{nat_list_eq_equiv}
use Rattle.std.proofs.lemmas.List.{length-append, length-map, length_push, map-append}
use Rattle.std.proofs.lemmas.List.Folds.{list_all-append}
use Rattle.std.proofs.lemmas.List.FromFn.{length-map-range_with_len}
use Rattle.item_list.proofs.Tests.{list_all-implied}
use Rattle.net_model.specs.Limits.{highest_rate, most_links, most_nodes}
use Rattle.net_model.specs.Network.{IsNetwork, are_names, are_patterns, is_link_among, is_sink_among}
use Rattle.net_model.specs.declared.Link.{Link}
use Rattle.net_model.specs.declared.net.Net.{Net}
use Rattle.net_reader.proofs.Distinct.{names_added}
use Rattle.net_reader.proofs.NameLaws.{are_names-more}
use Rattle.net_reader.specs.Bundles.{made_name, made_names}
use Rattle.net_reader.specs.Fresh.{are_new}
use Rattle.two_sources.proofs.NameLaws.{super_links-are_names}
use Rattle.two_sources.proofs.PatternLaws.{are_patterns-moved, name-moved_pattern}
use Rattle.two_sources.specs.Joined.{bundle_links, first_bundle, is_taken, joined_links, moved_pattern}
use Rattle.two_sources.specs.Joined.{second_bundle, super_links, super_name}

-- ---- how many links there are

length-bundle_links : (bundle : List ℕ) (count tail head : ℕ) → length (bundle_links bundle count tail head) ≡ count
length-bundle_links bundle count tail head =
    length-map (made_names bundle count) _ ∙ length-map-range_with_len (made_name bundle) 1 count

pub length-joined_links : (net : Net) (second r1 r2 : ℕ)
    → length (joined_links net second r1 r2) ≡ r1 + r2 + length net.links
length-joined_links net second r1 r2 =
    let node = length net.nodes in
    let into_first = bundle_links first_bundle r1 node net.source in
    let into_second = bundle_links second_bundle r2 node second in
    omega (
      arith,
      length-append (into_first ++ into_second) net.links,
      length-append into_first into_second,
      length-bundle_links first_bundle r1 node net.source,
      length-bundle_links second_bundle r2 node second,
    )

-- ---- names

name-bundle_links : (bundle : List ℕ) (count tail head : ℕ)
    → map (λ (link : Link). link.name) (bundle_links bundle count tail head) ≡ made_names bundle count
name-bundle_links bundle count tail head = each (made_names bundle count)
  where
    each : (names : List (List ℕ))
        → map (λ (link : Link). link.name) (map (λ name. record { name = name; tail = tail; head = head }) names) ≡ names
    each [] = refl
    each (name ∷ names) = ap (λ (l : List (List ℕ)). name ∷ l) (each names)

-- the names of the links
pub name-joined_links : (net : Net) (second r1 r2 : ℕ)
    → map (λ link. link.name) (joined_links net second r1 r2) ≡ super_links r1 r2 ++ map (λ link. link.name) net.links
name-joined_links net second r1 r2 =
    let name_of : Link → List ℕ = λ link. link.name in
    let node = length net.nodes in
    let into_first = bundle_links first_bundle r1 node net.source in
    let into_second = bundle_links second_bundle r2 node second in
    let first_names = name-bundle_links first_bundle r1 node net.source in
    let second_names = name-bundle_links second_bundle r2 node second in
    map-append name_of (into_first ++ into_second) net.links
    ∙ ap (λ (names : List (List ℕ)). names ++ map name_of net.links)
    (map-append name_of into_first into_second ∙ (λ i. first_names i ++ second_names i))

-- where no name is taken, the node's is new to the nodes
new_node : (net : Net) (r1 r2 : ℕ) → is_taken net r1 r2 ≡ false → list_any (bytes_eq super_name) net.nodes ≡ false
new_node net r1 r2 free =
    (λ i. list_any (λ node. nat_list_eq_equiv.symm super_name node i) net.nodes) ∙ (or_parts _ _ free).0

-- and the names of the links are new to those that are made
new_links : (made : List (List ℕ)) (links : List Link) → list_any (λ link. list_any (bytes_eq link.name) made) links ≡ false
    → are_new made (map (λ link. link.name) links) ≡ true
new_links made [] free = refl
new_links made (link ∷ links) free =
    let parts = or_parts _ _ free in
    and_from _ _ (not_from_false _ parts.0) (new_links made links parts.1)

-- so they are names with these
are_names-joined : (net : Net) (second r1 r2 : ℕ) → r1 + r2 ≤ highest_rate → is_taken net r1 r2 ≡ false
    → are_names (map (λ link. link.name) (joined_links net second r1 r2)) ≡ true
are_names-joined net second r1 r2 low free =
    let made = super_links r1 r2 in
    let names = map (λ (link : Link). link.name) net.links in
    let old = and_parts _ _ net.network.link_names in
    let new = new_links made net.links (or_parts _ _ free).1 in
    ap are_names (name-joined_links net second r1 r2)
    ∙ names_added made names (super_links-are_names r1 r2 low) old.0 (and_from _ _ new old.1)

-- ---- ends

bundle-ends : (nodes tail head : ℕ) (names : List (List ℕ)) → tail < nodes → head < nodes → (tail ≡ head → ⊥)
    → list_all (is_link_among nodes) (map (λ name. record { name = name; tail = tail; head = head }) names) ≡ true
bundle-ends nodes tail head [] from to apart = refl
bundle-ends nodes tail head (name ∷ names) from to apart =
    and_from _ _
    (and_from _ _ (and_from _ _ (lt-ltb tail nodes from) (lt-ltb head nodes to)) (not_from_false _ (ne_eqb tail head apart)))
    (bundle-ends nodes tail head names from to apart)

-- a link among nodes is one among more
link-more : (nodes more : ℕ) (link : Link) → nodes ≤ more → is_link_among nodes link ≡ true → is_link_among more link ≡ true
link-more nodes more link within among =
    let parts = and_parts (nat_lt link.tail nodes && nat_lt link.head nodes) _ among in
    let ends = and_parts (nat_lt link.tail nodes) (nat_lt link.head nodes) parts.0 in
    and_from _ _
    (and_from _ _
    (lt-ltb link.tail more (omega (arith, ltb-true link.tail nodes ends.0)))
    (lt-ltb link.head more (omega (arith, ltb-true link.head nodes ends.1))))
    parts.1

joined-ends : (net : Net) (second r1 r2 nodes : ℕ) → second < length net.nodes → nodes ≡ length net.nodes + 1
    → list_all (is_link_among nodes) (joined_links net second r1 r2) ≡ true
joined-ends net second r1 r2 nodes below more =
    let node = length net.nodes in
    let source : net.source < node = net.network.source_node in
    let into_first = bundle_links first_bundle r1 node net.source in
    let into_second = bundle_links second_bundle r2 node second in
    let first_ends : list_all (is_link_among nodes) into_first ≡ true =
    bundle-ends nodes node net.source (made_names first_bundle r1) (omega arith) (omega arith) (λ same. omega arith) in
    let second_ends : list_all (is_link_among nodes) into_second ≡ true =
    bundle-ends nodes node second (made_names second_bundle r2) (omega arith) (omega arith) (λ same. omega arith) in
    list_all-append (is_link_among nodes) (into_first ++ into_second) net.links
    ∙ and_from _ _
    (list_all-append (is_link_among nodes) into_first into_second ∙ and_from _ _ first_ends second_ends)
    (list_all-implied (is_link_among node) (is_link_among nodes) net.links
    (λ link among. link-more node nodes link (omega arith) among) net.network.link_ends)

-- ---- sinks

-- a sink is none of the nodes behind all
sink-more : (nodes source more sink : ℕ) → more ≡ nodes + 1 → is_sink_among nodes source sink ≡ true
    → is_sink_among more nodes sink ≡ true
sink-more nodes source more sink one among =
    let below = ltb-true sink nodes (and_parts (nat_lt sink nodes) _ among).0 in
    and_from _ _ (lt-ltb sink more (omega arith)) (not_from_false _ (ne_eqb sink nodes (λ same. omega arith)))

-- ---- the network

pub IsNetwork-joined : (net : Net) (second r1 r2 : ℕ) → second < length net.nodes → r1 + r2 ≤ highest_rate
    → is_taken net r1 r2 ≡ false → length net.nodes < most_nodes → length net.links + (r1 + r2) ≤ most_links
    → IsNetwork (net.nodes ++ super_name ∷ []) (joined_links net second r1 r2) (length net.nodes) net.sinks
    (map (moved_pattern (r1 + r2)) net.patterns)
IsNetwork-joined net second r1 r2 below low free room links_room =
    let network = net.network in
    let node = length net.nodes in
    let nodes = length (net.nodes ++ super_name ∷ []) in
    let by = r1 + r2 in
    let patterns = map (moved_pattern by) net.patterns in
    let one_more : nodes ≡ node + 1 = length_push net.nodes super_name in
    let size : length (joined_links net second r1 r2) ≡ by + length net.links = length-joined_links net second r1 r2 in
    let count : length patterns ≡ length net.patterns = length-map net.patterns (moved_pattern by) in
    record {
      node_names = are_names-more net.nodes super_name network.node_names refl (new_node net r1 r2 free);
      link_names = are_names-joined net second r1 r2 low free;
      link_ends = joined-ends net second r1 r2 nodes below one_more;
      source_node = omega arith;
      some_sink = network.some_sink;
      sink_nodes = list_all-implied (is_sink_among node net.source) (is_sink_among nodes node) net.sinks
          (λ sink among. sink-more node net.source nodes sink one_more among) network.sink_nodes;
      distinct_sinks = network.distinct_sinks;
      pattern_names = ap are_names (name-moved_pattern by net.patterns) ∙ network.pattern_names;
      pattern_links = ap (λ links. are_patterns links patterns) size
          ∙ are_patterns-moved by (length net.links) net.patterns network.pattern_links;
      few_nodes = omega arith;
      few_links = omega arith;
      few_patterns = omega (arith, network.few_patterns);
    }
