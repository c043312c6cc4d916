use Rattle.std.proofs.Common.{◌≡◌, ◌+◌, ◌*◌, take}
use Rattle.std.specs.List.{concat}
use Rattle.generation_frame.specs.Blocks.{row_bytes}
use Rattle.source_delivery.specs.Carried.{blocks_in}
use Rattle.source_delivery.specs.Twin.{twin_block}
use Rattle.source_delivery.proofs.twin.cut_twin_blocks.Given as goal

-- the first blocks stand one after another
abbrev pub invariant-loop-place : goal.invariant-loop-place
invariant-loop-place l =
    take (l.place * ((l.first_rate + l.second_rate) * row_bytes)) l.blocks ≡ concat (blocks_in (twin_block l.first_rate l.second_rate l.first l.second) 0 l.place)
