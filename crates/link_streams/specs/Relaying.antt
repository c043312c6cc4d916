-- What a relay writes of a generation, by what its streams hold or by a block.
use Rattle.std.specs.Prelude.{ℕ, List}
use Rattle.coded_traffic.specs.Traffic.{payload_in}
use Rattle.generation_frame.specs.declared.frame.Packet.{Packet}
use Rattle.link_streams.specs.Filled.{FrameRows, filled}
use Rattle.node_plans.specs.Plans.{outs_of}
use Rattle.node_program.specs.declared.code.Code.{Code}
use Rattle.relay_core.specs.Core.{summed}

-- the payloads that are sums over the live operands of what came
abbrev pub sums_in : Code → ℕ → List Packet → ℕ → ℕ → ℕ → List ℕ
sums_in code pattern came generation link piece =
    summed code pattern came (record { link = link; generation = generation; piece = piece })

-- the frames of a node that relays what came
abbrev pub relayed : Code → ℕ → ℕ → List Packet → ℕ → FrameRows
relayed code pattern node came generation = filled (outs_of code pattern node) generation (sums_in code pattern came generation)

-- the frames of a source that is fed a block
abbrev pub originated : Code → ℕ → ℕ → List ℕ → ℕ → FrameRows
originated code pattern node block generation =
    filled (outs_of code pattern node) generation (λ link piece. payload_in code pattern block piece link)
