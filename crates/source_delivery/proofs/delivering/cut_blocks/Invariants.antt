use Rattle.std.proofs.Common.{◌≡◌, ◌*◌, take}
use Rattle.std.specs.List.{concat}
use Rattle.generation_frame.specs.Blocks.{row_bytes}
use Rattle.source_delivery.specs.Carried.{blocks_from}
use Rattle.source_delivery.proofs.delivering.cut_blocks.Given as goal

-- the first blocks stand one after another
abbrev pub invariant-loop-place : goal.invariant-loop-place
invariant-loop-place l = take (l.place * (l.rate * row_bytes)) l.blocks ≡ concat (blocks_from l.bytes l.rate 0 l.place)
