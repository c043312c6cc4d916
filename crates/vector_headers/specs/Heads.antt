-- Headed frames of packets: a mark of three bytes, the piece's number, four bytes of the link, four of the generation,
-- the vector of the link, element by element, and the piece.
use Rattle.std.specs.Prelude.{ℕ, ◌+◌, ◌*◌, ◌==◌, ◌&&◌, if◌then◌else◌, nat_lt, Bool, List, [], ◌∷◌, ◌++◌, length, take, drop, slice_index, Result, Ok, Err}
use Rattle.std.specs.Int.{to_be_bytes, from_be_bytes, w32}
use Rattle.gf_tables.specs.declared.kind.Width.{Width}
use Rattle.gf_tables.specs.declared.kind.Width.TheVariants.{One, Two}
use Rattle.generation_frame.specs.declared.frame.Packet.{Packet}
use Rattle.linear_algebra.specs.Elements.{bytes_of_numbers, numbers_of_bytes}
use Rattle.vector_headers.specs.declared.heads.HeadRefusal.{HeadRefusal}
use Rattle.vector_headers.specs.declared.heads.HeadRefusal.TheVariants.{BadLength, BadMark, BadPiece}

-- the width of elements of one byte or two
abbrev pub width_of_bytes : ℕ → Width
width_of_bytes bytes = if bytes == 1 then One else Two

-- the letters LF and the version
abbrev pub mark : List ℕ
mark = 0x4c ∷ 0x46 ∷ 0x02 ∷ []

-- how many bytes a headed frame has, with so many elements of so many bytes
abbrev pub head_length : ℕ → ℕ → ℕ
head_length bytes count = 140 + count * bytes

-- the headed frame of a packet, with the numbers of a vector whose elements have so many bytes
abbrev pub headed : ℕ → List ℕ → Packet → List ℕ
headed bytes vector packet =
    (mark ++ packet.piece ∷ []) ++ (to_be_bytes w32 packet.link ++ to_be_bytes w32 packet.generation)
    ++ (bytes_of_numbers (width_of_bytes bytes) vector ++ packet.payload)

-- the numbers of the vector in a headed frame
abbrev pub vector_in : ℕ → ℕ → List ℕ → List ℕ
vector_in bytes count frame = numbers_of_bytes (width_of_bytes bytes) (take (count * bytes) (drop 12 frame))

-- the packet whose fields stand in a headed frame, and its payload from a place on
abbrev pub packet_in : ℕ → List ℕ → Packet
packet_in place frame =
    record {
      link = from_be_bytes w32 (take 4 (drop 4 frame));
      generation = from_be_bytes w32 (take 4 (drop 8 frame));
      piece = slice_index frame 3;
      payload = drop place frame;
    }

-- a frame begins with the mark
abbrev pub is_marked : List ℕ → Bool
is_marked frame =
    (slice_index frame 0 == 0x4c) && (slice_index frame 1 == 0x46) && (slice_index frame 2 == 0x02)

-- a headed frame is refused for its length first, then for its mark, and then for a piece above 7
abbrev pub head_read : ℕ → ℕ → List ℕ → Result Packet HeadRefusal
head_read bytes count frame =
    if length frame == head_length bytes count
    then
    (if is_marked frame
    then (if nat_lt 7 (slice_index frame 3) then Err BadPiece else Ok (packet_in (12 + count * bytes) frame))
    else Err BadMark)
    else Err BadLength
