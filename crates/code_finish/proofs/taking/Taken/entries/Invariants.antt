use Rattle.code_finish.proofs.TakingLaws.{AreEntries}
use Rattle.code_finish.proofs.taking.Taken.entries.Given as goal

-- the coefficients of the rows so far
abbrev pub invariant-loop-k : goal.invariant-loop-k
invariant-loop-k g l = AreEntries l.self.field l.self.rate l.self.span.rows l.k l.entries.items
