use Rattle.std.proofs.Common.{◌≡◌, map}
use Rattle.std.specs.List.{range_with_len}
use Rattle.field_vectors.specs.Grid.{entry_of}
use Rattle.sink_basis.proofs.inverting.column.Given as goal

-- the entries so far
abbrev pub invariant-loop-i : goal.invariant-loop-i
invariant-loop-i g l = l.items.items ≡ map (λ i. entry_of g.F.Field.zero l.matrix i l.k) (range_with_len 0 l.i)
