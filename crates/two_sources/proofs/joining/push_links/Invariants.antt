use Rattle.std.proofs.Common.{◌≡◌, ◌++◌, take}
use Rattle.two_sources.proofs.joining.push_links.Given as goal

-- the links so far are added
abbrev pub invariant-loop-link : goal.invariant-loop-link
invariant-loop-link l = l.links.items ≡ l.initial.links.items ++ take l.link-index l.more
