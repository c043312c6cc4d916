use Rattle.std.proofs.Common.{◌≡◌, ◌<◌, length, false, slice_index_or}
use Rattle.std.specs.Prelude.{◌==◌}
use Rattle.std.specs.List.{count_by}
use Rattle.topo_order.proofs.BackSteps.{IsPathBack}
use Rattle.topo_order.proofs.going_back.path_back.Given as goal

-- the path so far, whose last link isn't placed
abbrev pub invariant-loop-path : goal.invariant-loop-path
invariant-loop-path l = IsPathBack l.net.links (length l.net.nodes) l.path.items l.seen.items l.link × (l.link < length l.net.links) × (slice_index_or l.placing.placed.items l.link false ≡ false)

-- the nodes that weren't met
abbrev pub decreases-loop-path : goal.decreases-loop-path
decreases-loop-path l = count_by (λ s. s == 0) l.seen.items
