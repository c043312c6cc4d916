use Rattle.std.proofs.Common.{◌≡◌, ◌<◌, ℕ, length, slice_index}
use Rattle.linear_algebra.specs.Elements.{elements_of}
use Rattle.code_finish.proofs.taking.elements_in.Given as goal

-- the elements before the place are there
abbrev pub invariant-loop-place : goal.invariant-loop-place
invariant-loop-place l = (length l.elements ≡ 32) × ((k : ℕ) → k < l.place → slice_index l.elements k ≡ slice_index (elements_of l.field l.bytes) k)
