use Rattle.failure_patterns.specs.First.{AreClear}
use Rattle.code_checker.specs.Checking.{IsIdentity}
use Rattle.code_checker.proofs.patterns.first_of_sinks.Given as goal

-- the demands of the sinks so far have the identity
abbrev pub invariant-loop-sink : goal.invariant-loop-sink
invariant-loop-sink l = AreClear l.code.net (IsIdentity l.code) l.pattern l.begin l.sink
