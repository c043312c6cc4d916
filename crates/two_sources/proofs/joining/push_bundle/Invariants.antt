use Rattle.std.proofs.Common.{◌≡◌, ◌++◌}
use Rattle.two_sources.specs.Joined.{bundle_links}
use Rattle.two_sources.proofs.joining.push_bundle.Given as goal

-- the links so far are added
abbrev pub invariant-loop-before : goal.invariant-loop-before
invariant-loop-before l = l.links.items ≡ l.initial.links.items ++ bundle_links l.bundle l.before l.tail l.head
