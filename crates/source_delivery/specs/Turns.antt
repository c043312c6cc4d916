-- What the sinks' files get of what came to the sinks, generation by generation.
use Rattle.std.specs.Prelude.{ℕ, List, [], filter, length, map, slice_index_or}
use Rattle.std.specs.List.{range_with_len}
use Rattle.command_steps.specs.Filling.{has_bytes}
use Rattle.generation_frame.specs.Blocks.{counted_bytes}
use Rattle.generation_frame.specs.declared.frame.Packet.{Packet}
use Rattle.lif_outside.specs.FileCalls.{Written}
use Rattle.node_program.specs.declared.code.Code.{Code}
use Rattle.node_stations.specs.Decoded.{decoded_of}
use Rattle.node_stations.specs.Opening.{demand_of}
use Rattle.source_delivery.specs.Parts.{rows_of, sink_of}
use Rattle.source_delivery.specs.declared.parts.Parts.{Parts}
use Rattle.source_delivery.specs.declared.parts.Parts.TheVariants.{One}

-- the files of the sinks, by their paths, and how many sources they are of
pub record Outputs : Type 0 where
  pub paths : List (List ℕ)
  pub parts : Parts

-- one file for each sink, of one source
abbrev pub one_each : List (List ℕ) → Outputs
one_each paths = record { paths = paths; parts = One }

-- what a file gets of a generation, by its place: the bytes that the rows of its source count in the block that its sink decodes of the
-- packets that came
abbrev pub received_at : Parts → Code → ℕ → List Packet → ℕ → ℕ → List ℕ
received_at parts code pattern came generation file =
    counted_bytes (rows_of parts file (decoded_of code (demand_of code pattern (sink_of parts file)) came generation))

-- and its path
abbrev pub part_at : Outputs → Code → ℕ → List Packet → ℕ → ℕ → Written
part_at outputs code pattern came generation file =
    (slice_index_or outputs.paths file [], received_at outputs.parts code pattern came generation file)

-- what so many files get, from one on, of those that get some bytes
abbrev pub parts_from : Outputs → Code → ℕ → List Packet → ℕ → ℕ → ℕ → List Written
parts_from outputs code pattern came generation file count =
    filter has_bytes (map (part_at outputs code pattern came generation) (range_with_len file count))

-- what all get
abbrev pub turn_at : Outputs → Code → ℕ → List Packet → ℕ → List Written
turn_at outputs code pattern came generation = parts_from outputs code pattern came generation 0 (length outputs.paths)

-- and what they get of so many generations, from one on, and of the first ones
abbrev pub turns_from : Outputs → Code → ℕ → List Packet → ℕ → ℕ → List (List Written)
turns_from outputs code pattern came first count = map (turn_at outputs code pattern came) (range_with_len first count)

abbrev pub turns_before : Outputs → Code → ℕ → List Packet → ℕ → List (List Written)
turns_before outputs code pattern came generations = turns_from outputs code pattern came 0 generations
