use Rattle.std.proofs.Common.{◌≡◌, ◌+◌, map, take}
use Rattle.two_sources.proofs.patterns.moved_numbers.Given as goal

-- the numbers so far are moved
abbrev pub invariant-loop-number : goal.invariant-loop-number
invariant-loop-number l = l.moved.items ≡ map (λ number. l.by + number) (take l.number-index l.numbers)
