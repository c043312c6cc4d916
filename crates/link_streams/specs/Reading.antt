-- How a file is read as a stream of a link: frame after frame, up to the first that is refused.
use Rattle.std.specs.Prelude.{◌%◌, ◌*◌, ◌+◌, ◌/◌, ◌==◌, ◌&&◌, ℕ, Bool, not, List, [], ◌∷◌, drop, if◌then◌else◌, length, map, take, Result, Ok, Err}
use Rattle.std.specs.List.{list_any, range_with_len}
use Rattle.std.specs.Str.{bytes_eq}
use Rattle.generation_frame.specs.Frames.{frame_read}
use Rattle.generation_frame.specs.declared.frame.FrameRefusal.{FrameRefusal}
use Rattle.generation_frame.specs.declared.frame.Packet.{Packet}
use Rattle.generation_frame.specs.declared.stream_why.StreamWhy.{StreamWhy}
use Rattle.generation_frame.specs.declared.stream_why.StreamWhy.TheVariants.{BadFrame, BadLength, Conflict, OtherLink}
use Rattle.link_streams.specs.Streams.{place_of, put_in}

-- the bytes of a frame
abbrev pub frame_bytes : ℕ
frame_bytes = 140

-- the frames of whole ones that stand one after another
abbrev pub frames_in : List ℕ → List (List ℕ)
frames_in bytes = map (λ number. take frame_bytes (drop (number * frame_bytes) bytes)) (range_with_len 0 (length bytes / frame_bytes))

-- among packets is one of the same place with another payload
abbrev pub is_conflict : List Packet → Packet → Bool
is_conflict packets packet = list_any (λ one. (place_of one == place_of packet) && not (bytes_eq one.payload packet.payload)) packets

-- The packets with that of one more frame, which begins at a place of the file. A frame of another link is refused, and one that
-- contradicts an earlier one.
abbrev pub taken : ℕ → ℕ → List Packet → Result Packet FrameRefusal → Result (List Packet) StreamWhy
taken link at packets (Err refused) = Err (BadFrame at)
taken link at packets (Ok packet) =
    if packet.link == link
    then (if is_conflict packets packet then Err (Conflict at) else Ok (put_in packet packets))
    else Err (OtherLink at)

-- what follows packets that were taken; a refusal stays
abbrev pub goes_on : Result (List Packet) StreamWhy → (List Packet → Result (List Packet) StreamWhy) → Result (List Packet) StreamWhy
goes_on (Ok packets) next = next packets
goes_on (Err why) next = Err why

-- the packets with those of all frames from a place on, or the first refusal
abbrev pub reads : ℕ → ℕ → List Packet → List (List ℕ) → Result (List Packet) StreamWhy
reads link at packets [] = Ok packets
reads link at packets (frame ∷ frames) =
    goes_on (taken link at packets (frame_read frame)) (λ more. reads link (at + frame_bytes) more frames)

-- the packets of a file, as a stream of a link
abbrev pub packets_read : ℕ → List ℕ → Result (List Packet) StreamWhy
packets_read link bytes =
    if length bytes % frame_bytes == 0 then reads link 0 [] (frames_in bytes) else Err (BadLength (length bytes))
