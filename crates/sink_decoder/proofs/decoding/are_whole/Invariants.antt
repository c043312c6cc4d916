use Rattle.std.proofs.Common.{◌≡◌, ◌<◌, ℕ, true, false, not, ◌||◌, slice_index_or}
use Rattle.held_rows.specs.Held.{is_whole}
use Rattle.sink_decoder.proofs.decoding.are_whole.Given as goal

-- each link so far is whole, or not live
abbrev pub invariant-loop-place : goal.invariant-loop-place
invariant-loop-place l = (k : ℕ) → k < l.place → not (slice_index_or l.live k false) || is_whole l.held k ≡ true
