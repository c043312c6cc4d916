-- The files of links, and what is read of them.
use Rattle.std.specs.Prelude.{◌*◌, ◌/◌, ◌%◌, ℕ, List, [], ◌∷◌, Option, None, Some, Result, Ok, Err, find, map, max, not}
use Rattle.std.specs.List.{range_with_len}
use Rattle.command_steps.specs.Listed.{Wanted}
use Rattle.generation_frame.specs.Blocks.{pieces}
use Rattle.generation_frame.specs.declared.frame.Packet.{Packet}
use Rattle.generation_frame.specs.declared.stream_why.StreamWhy.{StreamWhy}
use Rattle.generation_frame.specs.declared.stream_why.StreamWhy.TheVariants.{Missing}
use Rattle.link_streams.specs.Reading.{packets_read}
use Rattle.link_streams.specs.Streams.{Stream, generation_count, has_place}
use Rattle.name_texts.specs.Names.{link_name}
use Rattle.net_model.specs.declared.net.Net.{Net}
use Rattle.top_base.specs.Lines.{stream_refused_line}
use Rattle.top_base.specs.Paths.{dotted_path}
use Rattle.top_base.specs.declared.outcome.Outcome.{Outcome}
use Rattle.top_base.specs.declared.status.Status.TheVariants.{StreamRefused}

-- how many bytes the streams of a call have together, at most
abbrev pub stream_limit : ℕ
stream_limit = 268435456

-- the path of the stream of a link, and those of links
abbrev pub stream_path : List ℕ → Net → ℕ → List ℕ
stream_path prefix net link = dotted_path prefix (link_name net link)

abbrev pub stream_paths : List ℕ → Net → List ℕ → List (List ℕ)
stream_paths prefix net links = map (stream_path prefix net) links

-- the outcome of a file that isn't a stream of its link, or not a whole one
abbrev pub stream_refused : Net → ℕ → StreamWhy → Outcome
stream_refused net link why = record { status = StreamRefused link why; line = stream_refused_line net link why }

abbrev pub refusal_by : Net → ℕ → Result (List Packet) StreamWhy → Option Outcome
refusal_by net link (Ok packets) = None
refusal_by net link (Err why) = Some (stream_refused net link why)

-- the stream of a link is wanted, and those of links
abbrev pub stream_wanted : List ℕ → Net → ℕ → Wanted
stream_wanted prefix net link = record { path = stream_path prefix net link; refusal = λ bytes. refusal_by net link (packets_read link bytes) }

abbrev pub streams_wanted : List ℕ → Net → List ℕ → List Wanted
streams_wanted prefix net links = map (stream_wanted prefix net) links

-- the packets of what was read, none of what is refused
abbrev pub packets_had : Result (List Packet) StreamWhy → List Packet
packets_had (Ok packets) = packets
packets_had (Err why) = []

-- the streams of links, by the bytes that were read of each
abbrev pub streams_of : List ℕ → List (List ℕ) → List Stream
streams_of [] files = []
streams_of (link ∷ links) [] = []
streams_of (link ∷ links) (bytes ∷ files) = record { link = link; packets = packets_had (packets_read link bytes) } ∷ streams_of links files

-- how many generations streams have, at least one
abbrev pub generations_of : List Stream → ℕ
generations_of [] = 1
generations_of (stream ∷ streams) = max (generation_count stream.packets) (generations_of streams)

-- the first place below a generation that a stream lacks, and the first that one of several does, with its link
abbrev pub first_lack : ℕ → List Packet → Option ℕ
first_lack count packets = find (λ place. not (has_place packets place)) (range_with_len 0 (count * pieces))

abbrev pub lack_refused : Net → ℕ → Option ℕ → Option Outcome → Option Outcome
lack_refused net link (Some place) later = Some (stream_refused net link (Missing (place / pieces) (place % pieces)))
lack_refused net link None later = later

abbrev pub first_lacking : Net → ℕ → List Stream → Option Outcome
first_lacking net count [] = None
first_lacking net count (stream ∷ streams) = lack_refused net stream.link (first_lack count stream.packets) (first_lacking net count streams)
