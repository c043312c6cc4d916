-- The command `relay`: the streams of the live links into a node are read, at the source a file, and those of the live links out of it are
-- written.
use Rattle.std.specs.Prelude.{◌*◌, ◌==◌, ◌∷◌, ℕ, Bool, false, true, List, [], if◌then◌else◌, length, map, unwrap_or}
use Rattle.std.specs.List.{range_with_len}
use Rattle.code_file.specs.Limits.{code_limit}
use Rattle.coded_traffic.specs.Traffic.{payload_in}
use Rattle.command_steps.specs.Feeding.{feeds}
use Rattle.command_steps.specs.Filling.{fills}
use Rattle.command_steps.specs.Listed.{reads_each}
use Rattle.command_steps.specs.Steps.{or_refuses, reads_then}
use Rattle.generation_frame.specs.Blocks.{block_count, block_of, piece_of, pieces}
use Rattle.lif_outside.specs.FileCalls.{Written}
use Rattle.link_streams.specs.Filled.{frames_of}
use Rattle.link_streams.specs.Relaying.{sums_in}
use Rattle.link_streams.specs.Streams.{Stream, all_packets}
use Rattle.node_plans.specs.Plans.{ins_of, outs_of}
use Rattle.node_program.specs.declared.code.Code.{Code}
use Rattle.source_turns.specs.Turns.{blocks_by}
use Rattle.top_base.specs.Accepting.{IsCodeOf, RefusesCode}
use Rattle.top_base.specs.Lines.{relayed_line}
use Rattle.top_base.specs.Named.{node_named, pattern_named}
use Rattle.top_base.specs.Performs.{Behaviour}
use Rattle.top_base.specs.Words.{AtNode, demo_limit}
use Rattle.top_nodes.specs.Declined.{declined}
use Rattle.top_nodes.specs.Files.{first_lacking, generations_of, stream_limit, stream_path, stream_paths, streams_of, streams_wanted}
use Rattle.top_nodes.specs.Sink.{pattern_in}

-- the number of the node that is named, and the live links into it and out of it
abbrev pub node_in : AtNode → Code → ℕ
node_in given code = unwrap_or (node_named code.net given.node) 0

abbrev pub ins_in : AtNode → Code → List ℕ
ins_in given code = ins_of code (pattern_in given code) (node_in given code)

abbrev pub outs_in : AtNode → Code → List ℕ
outs_in given code = outs_of code (pattern_in given code) (node_in given code)

abbrev pub is_source_in : AtNode → Code → Bool
is_source_in given code = node_in given code == code.net.source

-- the paths that are written
abbrev pub outputs_in : AtNode → Code → List (List ℕ)
outputs_in given code = stream_paths given.output code.net (outs_in given code)

-- what the files get of a generation: each the frames of its link, by the payloads of pieces
abbrev pub frames_turn : AtNode → Code → (ℕ → ℕ → ℕ → List ℕ) → ℕ → List Written
frames_turn given code payload generation =
    map (λ link. (stream_path given.output code.net link, frames_of link generation (payload generation link))) (outs_in given code)

abbrev pub frames_turns : AtNode → Code → (ℕ → ℕ → ℕ → List ℕ) → ℕ → List (List Written)
frames_turns given code payload generations = map (frames_turn given code payload) (range_with_len 0 generations)

-- the line of so many generations
abbrev pub line_in : AtNode → Code → ℕ → List ℕ
line_in given code generations =
    relayed_line (generations * pieces * length (outs_in given code)) (length (outs_in given code)) generations

-- the payloads of a node that relays what streams hold, and of the source of a file
abbrev pub relayed_in : AtNode → Code → List Stream → ℕ → ℕ → ℕ → List ℕ
relayed_in given code streams generation link piece = sums_in code (pattern_in given code) (all_packets streams) generation link piece

abbrev pub originated_in : AtNode → Code → List ℕ → ℕ → ℕ → ℕ → List ℕ
originated_in given code file generation link piece =
    payload_in code (pattern_in given code) (block_of code.rate (piece_of file code.rate generation)) piece link

-- ---- a node that isn't the source

-- how many generations it relays: none where no stream is read
abbrev pub generations_in : List Stream → ℕ
generations_in [] = 0
generations_in (stream ∷ streams) = generations_of (stream ∷ streams)

-- with so many generations: a place that is missing, or the files are written
abbrev pub relay_writes : AtNode → Code → List Stream → ℕ → Behaviour
relay_writes given code streams generations =
    or_refuses (first_lacking code.net generations streams)
    (fills (outputs_in given code) (frames_turns given code (relayed_in given code streams) generations) (line_in given code generations))

abbrev pub relay_passes : AtNode → Code → List Stream → Behaviour
relay_passes given code streams = relay_writes given code streams (generations_in streams)

abbrev pub relay_node : AtNode → Code → Behaviour
relay_node given code =
    reads_each stream_limit (streams_wanted given.input code.net (ins_in given code))
    (λ files. relay_passes given code (streams_of (ins_in given code) files))

-- ---- the source

abbrev pub source_turns : AtNode → Code → Bool → List ℕ → List (List Written)
source_turns given code ended bytes = frames_turns given code (originated_in given code bytes) (blocks_by ended bytes code.rate)

abbrev pub relay_source : AtNode → Code → Behaviour
relay_source given code =
    feeds given.input demo_limit (outputs_in given code) (source_turns given code) (λ source. line_in given code (block_count source code.rate))

-- ---- either

-- the paths that are read
abbrev pub inputs_in : AtNode → Code → List (List ℕ)
inputs_in given code = if is_source_in given code then given.input ∷ [] else stream_paths given.input code.net (ins_in given code)

abbrev pub relay_at : Bool → AtNode → Code → Behaviour
relay_at true given code = relay_source given code
relay_at false given code = relay_node given code

-- with an accepted code
abbrev pub relay_through : AtNode → Code → Behaviour
relay_through given code =
    or_refuses
    (declined given (pattern_named code.net given.pattern) (node_named code.net given.node) (inputs_in given code) (outputs_in given code))
    (relay_at (is_source_in given code) given code)

abbrev pub relay_command : AtNode → Behaviour
relay_command given = reads_then code_limit IsCodeOf RefusesCode given.code (relay_through given)
