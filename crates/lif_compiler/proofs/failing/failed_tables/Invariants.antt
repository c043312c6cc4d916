use Rattle.lif_compiler.specs.Failing.{AreFailedTablesTo}
use Rattle.lif_compiler.proofs.failing.failed_tables.Given as goal

-- the tables of the patterns before this one are made
abbrev pub invariant-loop-pattern : goal.invariant-loop-pattern
invariant-loop-pattern l = AreFailedTablesTo l.net l.pattern l.tables.items
