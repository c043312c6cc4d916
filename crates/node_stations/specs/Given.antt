-- What links give of a pair that was put.
use Rattle.std.specs.Prelude.{◌≡◌, take}
use Rattle.generation_frame.specs.Frames.{Fits, frame_of}
use Rattle.generation_frame.specs.declared.frame.Packet.{Packet}
use Rattle.lif_outside.specs.Moves.{address_bytes}
use Rattle.lif_outside.specs.declared.links.Flight.{Flight}

-- a flight has the link of a packet, and the front of its frame
pub record IsGivenOf (packet : Packet) (flight : Flight) : Type 0 where
  pub fits : Fits packet
  pub same_link : flight.link ≡ packet.link
  pub same_address : take address_bytes flight.frame ≡ take address_bytes (frame_of packet)

-- a flight is of some packet
pub record IsOfPut (flight : Flight) : Type 0 where
  pub packet : Packet
  pub given : IsGivenOf packet flight
