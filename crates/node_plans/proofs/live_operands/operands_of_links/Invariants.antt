use Rattle.std.proofs.Common.{◌≡◌, map, take}
use Rattle.node_plans.specs.Listed.{operands_by}
use Rattle.node_plans.proofs.live_operands.operands_of_links.Given as goal

-- those of the links so far
abbrev pub invariant-loop-link : goal.invariant-loop-link
invariant-loop-link l = l.table.items ≡ map (operands_by l.code l.live) (take l.link-index l.links)
