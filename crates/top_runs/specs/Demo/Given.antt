-- What `demo` is given: a combination network, of which a code is made, and a source.
use Rattle.std.specs.Prelude.{ℕ, List, map}
use Rattle.std.specs.List.{range_with_len}
use Rattle.generation_frame.specs.Blocks.{block_count}
use Rattle.net_maker.specs.Source.{source_byte}
use Rattle.node_program.specs.declared.code.Code.{Code}
use Rattle.top_base.specs.Words.{Demo}
use Rattle.top_tools.specs.Combining.{IsCombinationCode}

-- a code that is made of the network with a sink behind each K of N nodes
abbrev pub IsDemoCode : Demo → Code → Type 0
IsDemoCode demo code = IsCombinationCode demo.n demo.k code

-- the source, and how many blocks it has
abbrev pub source_of : Demo → List ℕ
source_of demo = map source_byte (range_with_len 0 demo.bytes)

abbrev pub blocks_in : Demo → Code → ℕ
blocks_in demo code = block_count (source_of demo) code.rate

-- the number that the links are opened with
abbrev pub demo_seed : ℕ
demo_seed = 1
