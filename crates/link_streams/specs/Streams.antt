-- Streams: the packets that a link has brought, by rising place, each place once.
use Rattle.std.specs.Prelude.{◌≡◌, ◌<◌, ◌+◌, ◌*◌, ◌==◌, ℕ, Bool, true, false, All, List, [], ◌∷◌, flat_map, if◌then◌else◌, map, max, nat_lt}
use Rattle.std.specs.List.{list_any}
use Rattle.generation_frame.specs.Blocks.{pieces}
use Rattle.generation_frame.specs.Frames.{Fits}
use Rattle.generation_frame.specs.declared.frame.Packet.{Packet}
use Rattle.net_model.specs.Lists.{is_rising}
use Rattle.link_streams.specs.declared.stream.Place.{Place}

-- a stream: its link, and its packets
pub record Stream : Type 0 where
  pub link : ℕ
  pub packets : List Packet

-- Places are numbered by generation and piece. That of a packet.
abbrev pub place_of : Packet → ℕ
place_of packet = packet.generation * pieces + packet.piece

-- a place is among those of packets
abbrev pub has_place : List Packet → ℕ → Bool
has_place packets place = list_any (λ packet. place_of packet == place) packets

-- packets of one link, whose places rise
pub record IsStream (stream : Stream) : Type 0 where
  pub rising : is_rising (map place_of stream.packets) ≡ true
  pub fit : All Fits stream.packets
  pub of_link : All (λ packet. packet.link ≡ stream.link) stream.packets

-- Packets with one more, which stands before those of later places. Where its place is among theirs, they stay.
abbrev pub put_in : Packet → List Packet → List Packet
put_in packet [] = packet ∷ []
put_in packet (one ∷ rest) =
    if nat_lt (place_of packet) (place_of one) then packet ∷ one ∷ rest
    else if place_of packet == place_of one then one ∷ rest
    else one ∷ put_in packet rest

-- how many generations there are up to the greatest
abbrev pub generation_count : List Packet → ℕ
generation_count [] = 0
generation_count (packet ∷ packets) = max (packet.generation + 1) (generation_count packets)

-- all places below that of a generation are there
abbrev pub IsWhole : ℕ → List Packet → Type 0
IsWhole count packets = (place : ℕ) → place < count * pieces → has_place packets place ≡ true

-- the least place below that of a generation that isn't there
pub record IsFirstMissing (count : ℕ) (packets : List Packet) (place : Place) : Type 0 where
  pub below : place.generation < count
  pub piece : place.piece < pieces
  pub lacks : has_place packets (place.generation * pieces + place.piece) ≡ false
  pub earlier : (one : ℕ) → one < place.generation * pieces + place.piece → has_place packets one ≡ true

-- all pieces of a generation are there
abbrev pub HasGeneration : ℕ → Stream → Type 0
HasGeneration generation stream = (piece : ℕ) → piece < pieces → has_place stream.packets (generation * pieces + piece) ≡ true

-- the packets of several streams
abbrev pub all_packets : List Stream → List Packet
all_packets streams = flat_map (λ stream. stream.packets) streams
