-- A pair that links gave, as a delivery of the core.
use Rattle.std.specs.Prelude.{◌≡◌, ◌∷◌, All, Bool, Contains, IsPermutation, List, if◌then◌else◌, true}
use Rattle.generation_frame.specs.declared.frame.Packet.{Packet}
use Rattle.lif_outside.specs.declared.links.Flight.{Flight}
use Rattle.node_stations.specs.Putting.{flight_of}
use Rattle.relay_core.specs.Core.{Delivery}
use Rattle.relay_runner.specs.Showing.{IsPair, packets_in}

-- the packet that a delivery gives: that of the pair, with the payload given
abbrev pub packet_given : Delivery → Packet
packet_given delivery = record delivery.pair { payload = delivery.payload }

-- A flight was given of what flew: it is the pair of the packet given, which by faithful links is the one that was put. The
-- pair stays, or what flew is the pair and what flies then.
pub record IsDelivered (faithful : Bool) (flight : Flight) (delivery : Delivery) (old new : List Flight) : Type 0 where
  pub given : flight ≡ flight_of (packet_given delivery)
  pub flew : Contains (packets_in old) delivery.pair
  pub as_put : faithful ≡ true → delivery.payload ≡ delivery.pair.payload
  pub flies : IsPermutation (packets_in old) (if delivery.stays then packets_in new else delivery.pair ∷ packets_in new)
  pub pairs : All IsPair new
