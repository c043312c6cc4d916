use Rattle.std.proofs.Common.{◌≡◌, ℕ, [], length, slice_index_or}
use Rattle.due_sums.specs.Counts.{lists_of}
use Rattle.due_sums.proofs.readers.empty_lists.Given as goal

-- so many empty lists
abbrev pub invariant-loop : goal.invariant-loop
invariant-loop l = record {
  count : length (lists_of l.lists.items) ≡ l.counter;
  empty : (at : ℕ) → slice_index_or (lists_of l.lists.items) at [] ≡ [];
}
