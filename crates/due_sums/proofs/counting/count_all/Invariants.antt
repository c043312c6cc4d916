use Rattle.std.proofs.Common.{◌≡◌, ◌<◌, ◌/◌, ℕ, [], length, slice_index, slice_index_or}
use Rattle.generation_frame.specs.Blocks.{pieces}
use Rattle.due_sums.proofs.counting.count_all.Given as goal

-- the counts before this one are those of all inputs
abbrev pub invariant-loop-number : goal.invariant-loop-number
invariant-loop-number l =
    (number : ℕ) → number < l.number → slice_index l.missing number ≡ length (slice_index_or l.groups (number / pieces) [])
