use Rattle.std.proofs.Common.{◌≡◌, map, take}
use Rattle.two_sources.specs.Joined.{moved_pattern}
use Rattle.two_sources.proofs.patterns.moved_patterns.Given as goal

-- the patterns so far are moved
abbrev pub invariant-loop-pattern : goal.invariant-loop-pattern
invariant-loop-pattern l = l.moved.items ≡ map (moved_pattern l.by) (take l.pattern-index l.patterns)
