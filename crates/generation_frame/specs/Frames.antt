-- Frames of packets: a mark of three bytes, the piece's number, four bytes of the link, four of the generation, and
-- the piece.
use Rattle.std.specs.Prelude.{ℕ, ◌<◌, ◌^◌, ◌==◌, ◌&&◌, if◌then◌else◌, nat_lt, Bool, true, false, List, [], ◌∷◌, ◌++◌, take, drop, slice_index, Result, Ok, Err}
use Rattle.std.specs.Int.{to_be_bytes, from_be_bytes, w32}
use Rattle.generation_frame.specs.Blocks.{pieces}
use Rattle.generation_frame.specs.declared.frame.Accepted.{Accepted}
use Rattle.generation_frame.specs.declared.frame.Accepted.TheVariants.{Known, New}
use Rattle.generation_frame.specs.declared.frame.Packet.{Packet}
use Rattle.generation_frame.specs.declared.frame.FrameRefusal.{FrameRefusal}
use Rattle.generation_frame.specs.declared.frame.FrameRefusal.TheVariants.{BadMark, BadPiece}

-- the numbers of a packet fit into a frame
pub record Fits (packet : Packet) : Type 0 where
  pub link : packet.link < 2 ^ 32
  pub generation : packet.generation < 2 ^ 32
  pub piece : packet.piece < pieces

-- the letters LF and the version
abbrev pub mark : List ℕ
mark = 0x4c ∷ 0x46 ∷ 0x01 ∷ []

-- the frame of a packet
abbrev pub frame_of : Packet → List ℕ
frame_of packet =
    (mark ++ packet.piece ∷ []) ++ (to_be_bytes w32 packet.link ++ to_be_bytes w32 packet.generation)
    ++ packet.payload

-- the packet whose fields stand in a frame
abbrev pub packet_in : List ℕ → Packet
packet_in frame =
    record {
      link = from_be_bytes w32 (take 4 (drop 4 frame));
      generation = from_be_bytes w32 (take 4 (drop 8 frame));
      piece = slice_index frame 3;
      payload = drop 12 frame;
    }

-- a frame begins with the mark
abbrev pub is_marked : List ℕ → Bool
is_marked frame =
    (slice_index frame 0 == 0x4c) && (slice_index frame 1 == 0x46) && (slice_index frame 2 == 0x01)

-- a frame is refused for its mark first, and then for a piece above 7
abbrev pub frame_read : List ℕ → Result Packet FrameRefusal
frame_read frame =
    if is_marked frame
    then (if nat_lt 7 (slice_index frame 3) then Err BadPiece else Ok (packet_in frame))
    else Err BadMark

-- what is answered of a packet, by whether its piece is held already
abbrev pub accepted : Bool → Accepted
accepted true = Known
accepted false = New
