-- Networks whose links have new numbers: the new link at a place is the old one whose number stands there.
use Rattle.std.specs.Prelude.{◌≡◌, ℕ, nat_eq, nat_lt, Bool, None, false, if◌then◌else◌, IsTrue, List, [], length, map, filter, slice_get, slice_index, slice_index_or, unwrap_or}
use Rattle.std.specs.List.{list_all, position_or_len, range_with_len}
use Rattle.net_model.specs.Flows.{FlowNetwork}
use Rattle.net_model.specs.Lists.{are_distinct, is_among}
use Rattle.net_model.specs.declared.Link.{Link}
use Rattle.net_model.specs.declared.Pattern.{Pattern}
use Rattle.net_model.specs.declared.net.FieldChoice.{FieldChoice}
use Rattle.net_model.specs.declared.net.Net.{Net}

-- each number below a bound stands in the list once
pub record HasEachOnce (bound : ℕ) (order : List ℕ) : Type 0 where
  pub whole : length order ≡ bound
  pub below : IsTrue (list_all (λ number. nat_lt number bound) order)
  pub distinct : IsTrue (are_distinct nat_eq order)

-- the old number of a new link, and the new number of an old one
abbrev pub old_number : List ℕ → ℕ → ℕ
old_number order link = slice_index order link

abbrev pub new_number : List ℕ → ℕ → ℕ
new_number order link = position_or_len (nat_eq link) order

-- the links in a new order
abbrev pub renumbered_links : List Link → List ℕ → List Link
renumbered_links links order = map (λ old. unwrap_or (slice_get links old) (record { name = []; tail = 0; head = 0 })) order

-- the new numbers of links, in rising order
abbrev pub renumbered_set : List ℕ → List ℕ → List ℕ
renumbered_set order links = filter (λ new. is_among links (old_number order new)) (range_with_len 0 (length order))

-- a pattern with the new numbers of its links
abbrev pub renumbered_pattern : List ℕ → Pattern → Pattern
renumbered_pattern order pattern = record { name = pattern.name; links = renumbered_set order pattern.links }

-- what carries the flow of a demand, with its links in a new order
abbrev pub renumbered_network : FlowNetwork → List ℕ → FlowNetwork
renumbered_network network order =
    record {
      nodes = network.nodes;
      links = renumbered_links network.links order;
      source = network.source;
      sink = network.sink;
      failed = renumbered_set order network.failed;
    }

-- a network with its links in a new order, this field named, and no rate wanted; all else is as it was
pub record IsRenumbered (order : List ℕ) (choice : FieldChoice) (old new : Net) : Type 0 where
  pub nodes : new.nodes ≡ old.nodes
  pub links : new.links ≡ renumbered_links old.links order
  pub source : new.source ≡ old.source
  pub sinks : new.sinks ≡ old.sinks
  pub patterns : new.patterns ≡ map (renumbered_pattern order) old.patterns
  pub field : new.field ≡ choice
  pub wanted : new.wanted ≡ None

-- no link has a mark
pub record AreUnmarked (marks : List Bool) : Type 0 where
  pub none : (link : ℕ) → slice_index_or marks link false ≡ false

-- each of these links has the mark, and each other the one that it had
pub record AreMarked (links : List ℕ) (mark : Bool) (old new : List Bool) : Type 0 where
  pub each : (link : ℕ) → slice_index_or new link false ≡ (if is_among links link then mark else slice_index_or old link false)
