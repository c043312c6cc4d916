-- The frames of a generation: for each link out of a node those of its eight pieces, one after another.
use Rattle.std.specs.Prelude.{◌*◌, ◌+◌, ◌++◌, ℕ, List, [], drop, map, replicate, slice_index_or, slice_set, take}
use Rattle.std.specs.List.{concat, range_with_len}
use Rattle.generation_frame.specs.Blocks.{piece_bytes, pieces}
use Rattle.generation_frame.specs.Frames.{frame_of}
use Rattle.generation_frame.specs.declared.frame.Packet.{Packet}
use Rattle.link_streams.specs.Reading.{frame_bytes}

-- links, and the bytes of the frames of each
pub record FrameRows : Type 0 where
  pub links : List ℕ
  pub bytes : List (List ℕ)

-- the frames of a link's pieces in a generation
abbrev pub frames_of : ℕ → ℕ → (ℕ → List ℕ) → List ℕ
frames_of link generation payload =
    concat (map (λ piece. frame_of (record { link = link; generation = generation; piece = piece; payload = payload piece }))
    (range_with_len 0 pieces))

-- those of all links, by the payload of each piece of each link
abbrev pub filled : List ℕ → ℕ → (ℕ → ℕ → List ℕ) → FrameRows
filled links generation payload =
    record { links = links; bytes = map (λ link. frames_of link generation (payload link)) links }

-- before any generation: the frames of generation 0, of zeros
abbrev pub blank : List ℕ → FrameRows
blank links = filled links 0 (λ link piece. replicate piece_bytes 0)

-- frames of a link's pieces with that of one piece written anew
abbrev pub with_frame : Packet → List ℕ → List ℕ
with_frame packet frames =
    take (packet.piece * frame_bytes) frames ++ frame_of packet ++ drop (packet.piece * frame_bytes + frame_bytes) frames

-- the frame of a packet written among those of the link at a place
abbrev pub with_packet : ℕ → Packet → FrameRows → FrameRows
with_packet place packet frames =
    record { links = frames.links; bytes = slice_set frames.bytes place (with_frame packet (slice_index_or frames.bytes place [])) }
