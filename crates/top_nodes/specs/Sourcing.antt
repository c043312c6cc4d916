-- The source of a code at work: what the blocks of its file become.
use Rattle.std.specs.Prelude.{ℕ, List}
use Rattle.generation_frame.specs.Blocks.{block_of}
use Rattle.link_streams.specs.Relaying.{originated}
use Rattle.node_program.specs.declared.code.Code.{Code}
use Rattle.source_turns.specs.Turns.{Job}
use Rattle.top_nodes.specs.Working.{parts_of, paths_of}
use Rattle.top_nodes.specs.declared.working.Relaying.{Relaying}

-- each file gets of a generation the frames of its link
abbrev pub source_job : Code → ℕ → ℕ → List (List ℕ) → Job
source_job code pattern node paths = record {
  paths = paths;
  rate = code.rate;
  turn = λ generation piece. parts_of paths (originated code pattern node (block_of code.rate piece) generation).bytes;
  some_rate = code.code.draft.some_rate;
  low_rate = code.code.draft.low_rate;
}

abbrev pub job_of : {F : Type 0} → Relaying F → Job
job_of relaying = source_job relaying.code.now relaying.pattern relaying.node (paths_of relaying)
