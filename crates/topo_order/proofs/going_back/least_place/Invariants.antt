use Rattle.std.proofs.Common.{◌<◌, ◌≤◌, ℕ, length, slice_index}
use Rattle.topo_order.proofs.going_back.least_place.Given as goal

-- the least of the links before this one
abbrev pub invariant-loop-place : goal.invariant-loop-place
invariant-loop-place l = (l.least < length l.turn) × ((k : ℕ) → k < l.place → slice_index l.turn l.least ≤ slice_index l.turn k)
