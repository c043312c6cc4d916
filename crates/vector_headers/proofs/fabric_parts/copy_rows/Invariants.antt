use Rattle.std.proofs.Common.{◌≡◌, ◌<◌, ℕ, [], get_or}
use Rattle.coded_traffic.specs.CodeBlocks.{row_of}
use Rattle.vector_headers.proofs.fabric_parts.copy_rows.Given as goal

-- the rows so far are those of the block
abbrev pub invariant-loop-place : goal.invariant-loop-place
invariant-loop-place l = (e : ℕ) → e < l.place → get_or l.rows e [] ≡ row_of l.block e
