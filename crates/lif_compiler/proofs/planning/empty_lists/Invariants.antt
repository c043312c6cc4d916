use Rattle.std.proofs.Common.{◌≡◌, ℕ, [], length}
use Rattle.lif_compiler.specs.Planning.{list_of}
use Rattle.lif_compiler.proofs.planning.empty_lists.Given as goal

-- so many empty lists
abbrev pub invariant-loop : goal.invariant-loop
invariant-loop l = record {
  count : length l.lists.items ≡ l.counter;
  empty : (link : ℕ) → list_of l.lists.items link ≡ [];
}
