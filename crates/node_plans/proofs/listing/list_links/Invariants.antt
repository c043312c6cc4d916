use Rattle.node_plans.specs.Listed.{AreListed}
use Rattle.node_plans.proofs.listing.list_links.Given as goal

-- the live links before this one are listed
abbrev pub invariant-loop-link : goal.invariant-loop-link
invariant-loop-link l = AreListed l.code l.live l.link l.listed
