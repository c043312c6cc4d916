-- One of some stations, of which the node is another then.
use Rattle.std.specs.Prelude.{◌≡◌, ◌<◌, ℕ, List, Some, get_or, length, slice_get, slice_set}
use Rattle.std.proofs.Common.{ap, sym, ◌∙◌}
use Rattle.std.proofs.Math.Seq.{map-set_same}
use Rattle.node_stations.proofs.TableLaws.{made_at, replaced_at}
use Rattle.node_stations.specs.Shown.{IsReplaced}
use Rattle.node_stations.specs.Table.{relays_of, sinks_of}
use Rattle.node_stations.specs.declared.station.Station.{Station}
use Rattle.relay_node.specs.Relay.{Relay}

module _ {F : Type 0} (stations : List (Station F)) (place : ℕ) (station : Station F) (is : station ≡ get_or stations place station) where
  -- the stations where that node is another
  abbrev pub with_node : Relay → List (Station F)
  with_node new = slice_set stations place (record { node = new; sink = station.sink })

  -- the sinks are the same
  pub same-sinks : (new : Relay) → sinks_of (with_node new) ≡ sinks_of stations
  same-sinks new = map-set_same (λ s. s.sink) stations place (record { node = new; sink = station.sink }) station (ap (λ (s : Station F). s.sink) is)

  -- the node there
  pub node-at : place < length stations → slice_get (relays_of stations) place ≡ Some station.node
  node-at below = made_at (λ s. s.node) stations place station below ∙ ap (λ (s : Station F). Some s.node) (sym is)

  -- it is replaced
  pub node-replaced : place < length stations → (new : Relay) → IsReplaced place new (relays_of stations) (relays_of (with_node new))
  node-replaced below new = replaced_at (λ s. s.node) stations place (record { node = new; sink = station.sink }) below
