use Rattle.std.proofs.Common.{All, take}
use Rattle.due_sums.specs.Counts.{IsFresh, IsOfSize}
use Rattle.due_sums.proofs.due_sums.clear_tables.Given as goal

-- nothing has come of the generations before this one
abbrev pub invariant-loop-table : goal.invariant-loop-table
invariant-loop-table l = record {
  size : All (IsOfSize l.inputs l.groups) l.tables;
  fresh : All (IsFresh l.inputs l.groups) (take l.table-index l.tables);
}
