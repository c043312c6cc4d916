use Rattle.std.proofs.Common.{◌≡◌, [], replicate}
use Rattle.node_plans.specs.Listed.{items_of}
use Rattle.node_plans.proofs.listing.empty_lists.Given as goal

-- so many empty lists
abbrev pub invariant-loop : goal.invariant-loop
invariant-loop l = items_of l.lists.items ≡ replicate l.counter []
