use Rattle.std.proofs.Common.{◌≡◌, ◌<◌, ℕ, length, slice_index}
use Rattle.topo_order.specs.GoingBack.{place_in_turn}
use Rattle.topo_order.proofs.going_back.walked_from.Given as goal

-- the first links of the walk
abbrev pub invariant-loop-k : goal.invariant-loop-k
invariant-loop-k l = (length l.cycle.items ≡ l.k) × ((k : ℕ) → k < l.k → slice_index l.cycle.items k ≡ slice_index l.turn (place_in_turn (length l.turn) l.from k))
