use Rattle.std.proofs.Common.{◌≡◌, All, length}
use Rattle.due_sums.specs.Counts.{IsFresh}
use Rattle.due_sums.proofs.due_sums.fresh_tables.Given as goal

-- so many generations of which nothing has come
abbrev pub invariant-loop : goal.invariant-loop
invariant-loop l = record {
  count : length l.tables.items ≡ l.counter;
  fresh : All (IsFresh l.inputs l.groups) l.tables.items;
}
