-- What the sink of a demand decodes of packets that came: its decoder's matrix times the payloads, of each key the first one's.
use Rattle.std.specs.Prelude.{ℕ, List, map, if◌then◌else◌}
use Rattle.std.specs.List.{concat, range_with_len}
use Rattle.coded_traffic.specs.CodeBlocks.{row_width}
use Rattle.generation_frame.specs.Blocks.{pieces}
use Rattle.generation_frame.specs.declared.frame.Packet.{Packet}
use Rattle.linear_algebra.specs.Elements.{bytes_of_row, elements_of}
use Rattle.linear_algebra.specs.Matrices.{matrix_times}
use Rattle.linear_algebra.specs.Rows.{zero_row}
use Rattle.net_model.specs.Demands.{pattern_of_demand}
use Rattle.node_program.specs.CodeValue.{is_live_in}
use Rattle.node_program.specs.declared.code.Code.{Code}
use Rattle.relay_core.specs.Core.{payload_of}
use Rattle.sink_decoder.specs.Receiving.{entries_of, links_of}

-- the row that came on a link in a generation: its pieces, one after another
abbrev pub row_of : List Packet → ℕ → ℕ → List ℕ
row_of came generation link =
    concat (map (λ piece. payload_of came (record { link = link; generation = generation; piece = piece })) (range_with_len 0 pieces))

-- what counts for a link of a decoder: the row that came where the link is live, and else zeros
abbrev pub value_of : Code → ℕ → List Packet → ℕ → ℕ → List ℕ
value_of code pattern came generation link =
    if is_live_in code pattern link then elements_of code.field (row_of came generation link) else zero_row (row_width code.field)

-- the block that is decoded
abbrev pub decoded_of : Code → ℕ → List Packet → ℕ → List ℕ
decoded_of code demand came generation =
    concat (map (bytes_of_row code.field)
    (matrix_times code.field (row_width code.field) code.rate (entries_of code demand)
    (map (value_of code (pattern_of_demand code.net demand) came generation) (links_of code demand))))
