use Rattle.std.proofs.Common.{◌≡◌, ◌<◌, ◌≤◌, ℕ}
use Rattle.field_vectors.specs.Grid.{entry_of}
use Rattle.field_vectors.proofs.inverse.pivot_of.Given as goal

-- the rows before have zero there
abbrev pub invariant-loop-i : goal.invariant-loop-i
invariant-loop-i g l = (r : ℕ) → l.k ≤ r → r < l.i → entry_of g.F.Field.zero l.work r l.k ≡ g.F.Field.zero
