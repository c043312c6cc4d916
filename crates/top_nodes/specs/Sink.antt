-- The command `sink`: the streams that a sink's decoder wants are read, and what their blocks count is written to one file.
use Rattle.std.specs.Prelude.{◌+◌, ◌==◌, ◌∷◌, nat_lt, not, ℕ, Bool, List, [], Option, find, filter, if◌then◌else◌, map, sum_by, unwrap_or}
use Rattle.std.specs.List.{range_with_len}
use Rattle.std.specs.Option.{option_map, option_or}
use Rattle.code_file.specs.Limits.{code_limit}
use Rattle.command_steps.specs.Filling.{fills, has_bytes}
use Rattle.command_steps.specs.Listed.{reads_each}
use Rattle.command_steps.specs.Steps.{or_refuses, reads_then}
use Rattle.generation_frame.specs.Blocks.{capacity, count_of, counted_bytes}
use Rattle.lif_outside.specs.FileCalls.{Written}
use Rattle.link_streams.specs.Gathering.{wanted_links}
use Rattle.link_streams.specs.Streams.{Stream, all_packets}
use Rattle.node_program.specs.declared.code.Code.{Code}
use Rattle.node_stations.specs.Decoded.{decoded_of}
use Rattle.node_stations.specs.Opening.{demand_of}
use Rattle.sink_decoder.specs.Receiving.{sink_plan_of}
use Rattle.top_base.specs.Accepting.{IsCodeOf, RefusesCode}
use Rattle.top_base.specs.Lines.{bad_blocks_line, received_line}
use Rattle.top_base.specs.Named.{pattern_named, sink_named}
use Rattle.top_base.specs.Performs.{Behaviour}
use Rattle.top_base.specs.Words.{AtNode}
use Rattle.top_base.specs.declared.outcome.Outcome.{Outcome}
use Rattle.top_base.specs.declared.status.Status.TheVariants.{BadBlocks}
use Rattle.top_nodes.specs.Declined.{declined}
use Rattle.top_nodes.specs.Files.{first_lacking, generations_of, stream_limit, stream_paths, streams_of, streams_wanted}

-- the number of the pattern that is named, and the place of the sink
abbrev pub pattern_in : AtNode → Code → ℕ
pattern_in given code = unwrap_or (pattern_named code.net given.pattern) 0

abbrev pub sink_in : AtNode → Code → ℕ
sink_in given code = unwrap_or (sink_named code.net given.node) 0

-- their demand, and the links that it wants
abbrev pub demand_in : AtNode → Code → ℕ
demand_in given code = demand_of code (pattern_in given code) (sink_in given code)

abbrev pub links_in : AtNode → Code → List ℕ
links_in given code = wanted_links (sink_plan_of code (demand_in given code))

-- the block of a generation, as the sink decodes it
abbrev pub block_in : Code → ℕ → List Stream → ℕ → List ℕ
block_in code demand streams generation = decoded_of code demand (all_packets streams) generation

-- Whether a count is wrong: that of the last of so many blocks is below what a block has room for, and that of each other is just that.
abbrev pub is_bad : ℕ → ℕ → ℕ → ℕ → Bool
is_bad room generations generation count = if generation + 1 == generations then not (nat_lt count room) else not (count == room)

-- the outcome of the first block whose count is wrong
abbrev pub bad_block : (ℕ → ℕ) → ℕ → Outcome
bad_block count generation =
    record { status = BadBlocks generation (count generation); line = bad_blocks_line generation (count generation) }

abbrev pub first_bad : Code → ℕ → List Stream → ℕ → Option Outcome
first_bad code demand streams generations =
    let count : ℕ → ℕ = λ generation. count_of (block_in code demand streams generation) in
    option_map (bad_block count) (find (λ generation. is_bad (capacity code.rate) generations generation (count generation)) (range_with_len 0 generations))

-- what the file gets of a generation: the bytes that its block counts, where there are any
abbrev pub received_in : Code → ℕ → List Stream → ℕ → List ℕ
received_in code demand streams generation = counted_bytes (block_in code demand streams generation)

abbrev pub sink_turn : AtNode → Code → List Stream → ℕ → List Written
sink_turn given code streams generation = filter has_bytes ((given.output, received_in code (demand_in given code) streams generation) ∷ [])

abbrev pub sink_turns : AtNode → Code → List Stream → ℕ → List (List Written)
sink_turns given code streams generations = map (sink_turn given code streams) (range_with_len 0 generations)

-- how many bytes the blocks count
abbrev pub bytes_in : Code → ℕ → List Stream → ℕ → ℕ
bytes_in code demand streams generations = sum_by (λ generation. count_of (block_in code demand streams generation)) (range_with_len 0 generations)

-- with so many generations: a place that is missing, a count that is wrong, or the file is written
abbrev pub sink_writes : AtNode → Code → List Stream → ℕ → Behaviour
sink_writes given code streams generations =
    or_refuses (option_or (first_lacking code.net generations streams) (first_bad code (demand_in given code) streams generations))
    (fills (given.output ∷ []) (sink_turns given code streams generations)
    (received_line (bytes_in code (demand_in given code) streams generations) generations))

-- with streams that were read
abbrev pub sink_gathers : AtNode → Code → List Stream → Behaviour
sink_gathers given code streams = sink_writes given code streams (generations_of streams)

-- with an accepted code
abbrev pub sink_through : AtNode → Code → Behaviour
sink_through given code =
    or_refuses
    (declined given (pattern_named code.net given.pattern) (sink_named code.net given.node) (stream_paths given.input code.net (links_in given code))
    (given.output ∷ []))
    (reads_each stream_limit (streams_wanted given.input code.net (links_in given code))
    (λ files. sink_gathers given code (streams_of (links_in given code) files)))

abbrev pub sink_command : AtNode → Behaviour
sink_command given = reads_then code_limit IsCodeOf RefusesCode given.code (sink_through given)
