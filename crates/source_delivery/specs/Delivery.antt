-- The paths of the sinks' files, and how much of a source was sent.
use Rattle.std.specs.Prelude.{◌≡◌, ℕ, List, length, map, string_bytes}
use Rattle.generation_frame.specs.Blocks.{block_count}
use Rattle.node_program.specs.declared.code.Code.{Code}
use Rattle.source_delivery.specs.Turns.{Outputs}
use Rattle.source_delivery.specs.declared.delivery.SourceDelivery.{SourceDelivery}
use Rattle.source_delivery.specs.declared.delivery.SentCounts.{SentCounts}

-- the paths of the sinks' files
abbrev pub paths_of : {F : Type 0} → SourceDelivery F → List (List ℕ)
paths_of delivery = map string_bytes delivery.outputs.items

-- and how many sources they are of
abbrev pub outputs_in : {F : Type 0} → SourceDelivery F → Outputs
outputs_in delivery = record { paths = paths_of delivery; parts = delivery.parts }

-- how much of a source was sent
pub record AreCounts (code : Code) (source : List ℕ) (counts : SentCounts) : Type 0 where
  pub bytes : counts.bytes ≡ length source
  pub generations : counts.generations ≡ block_count source code.rate
  pub sinks : counts.sinks ≡ length code.net.sinks
