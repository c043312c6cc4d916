use Rattle.code_checker.specs.First.{IsFirstBefore}
use Rattle.code_checker.proofs.patterns.first_between.Given as goal

-- the first failure of the patterns so far
abbrev pub invariant-loop-pattern : goal.invariant-loop-pattern
invariant-loop-pattern l = IsFirstBefore l.code l.from l.to l.pattern l.first
