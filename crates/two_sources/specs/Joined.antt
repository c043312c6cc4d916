-- A network in which one node feeds two: it stands before the source and before a second node.
use Rattle.std.specs.Prelude.{◌≡◌, ◌+◌, ◌||◌, nat_le, nat_lt, ℕ, Bool, IsTrue, IsFalse, List, [], ◌∷◌, ◌++◌, length, map, codes, Some}
use Rattle.std.specs.List.{list_any}
use Rattle.std.specs.Str.{bytes_eq}
use Rattle.net_model.specs.Limits.{most_links, most_nodes}
use Rattle.net_model.specs.declared.Link.{Link}
use Rattle.net_model.specs.declared.Pattern.{Pattern}
use Rattle.net_model.specs.declared.net.Net.{Net}
use Rattle.net_reader.specs.Bundles.{made_names}

-- the name of the node, and those of the bundles of links from it into the source and into the second node
abbrev pub super_name : List ℕ
super_name = codes "super"

abbrev pub first_bundle : List ℕ
first_bundle = codes "super.1"

abbrev pub second_bundle : List ℕ
second_bundle = codes "super.2"

-- the names of so many links into the source, and so many into the second node
abbrev pub super_links : ℕ → ℕ → List (List ℕ)
super_links r1 r2 = made_names first_bundle r1 ++ made_names second_bundle r2

-- the links of a bundle from one node to another
abbrev pub bundle_links : List ℕ → ℕ → ℕ → ℕ → List Link
bundle_links bundle count tail head = map (λ name. record { name = name; tail = tail; head = head }) (made_names bundle count)

-- those from a node behind the network's own into the source, those into the second node, and then the network's
abbrev pub joined_links : Net → ℕ → ℕ → ℕ → List Link
joined_links net second r1 r2 =
    bundle_links first_bundle r1 (length net.nodes) net.source ++ bundle_links second_bundle r2 (length net.nodes) second ++ net.links

-- a pattern with each number of a link higher by so many
abbrev pub moved_pattern : ℕ → Pattern → Pattern
moved_pattern by pattern = record { name = pattern.name; links = map (λ link. by + link) pattern.links }

-- the network with that node in place of its source, and a code wanted of the rate of both
pub record IsJoined (second r1 r2 : ℕ) (net joined : Net) : Type 0 where
  pub nodes : joined.nodes ≡ net.nodes ++ super_name ∷ []
  pub links : joined.links ≡ joined_links net second r1 r2
  pub source : joined.source ≡ length net.nodes
  pub sinks : joined.sinks ≡ net.sinks
  pub patterns : joined.patterns ≡ map (moved_pattern (r1 + r2)) net.patterns
  pub field : joined.field ≡ net.field
  pub wanted : joined.wanted ≡ Some (r1 + r2)

-- a node of the network has the name of the new one, or a link of it the name of a new one
abbrev pub is_taken : Net → ℕ → ℕ → Bool
is_taken net r1 r2 =
    list_any (λ node. bytes_eq node super_name) net.nodes || list_any (λ link. list_any (bytes_eq link.name) (super_links r1 r2)) net.links

-- no such name is taken, and there is no room for the node or for the links
pub record IsTooMany (net : Net) (r1 r2 : ℕ) : Type 0 where
  pub free : IsFalse (is_taken net r1 r2)
  pub full : IsTrue (nat_le most_nodes (length net.nodes) || nat_lt most_links (length net.links + (r1 + r2)))
