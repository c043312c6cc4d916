use Rattle.std.proofs.Common.{◌≡◌, ◌<◌, ℕ, true, false, slice_index_or}
use Rattle.topo_order.proofs.going_back.first_unplaced.Given as goal

-- the links before this one are placed
abbrev pub invariant-loop-link : goal.invariant-loop-link
invariant-loop-link l = (link : ℕ) → link < l.link → slice_index_or l.placing.placed.items link false ≡ true
