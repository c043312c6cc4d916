-- Files that were open are closed one by one.
use Rattle.system_files.specs.Open.{open_count, OnlyClosesAny}
use Rattle.system_files.proofs.open.OpenFiles.open.Given as goal

abbrev pub invariant-loop-self : goal.invariant-loop-self
invariant-loop-self g l = OnlyClosesAny l.initial.self l.self

abbrev pub decreases-loop-self : goal.decreases-loop-self
decreases-loop-self g l = open_count l.self
