use Rattle.std.proofs.Common.{◌≡◌, ◌++◌, replicate}
use Rattle.field_vectors.proofs.inverse.push_zeros.Given as goal

-- so many zeros so far
abbrev pub invariant-loop-place : goal.invariant-loop-place
invariant-loop-place g l = l.items.items ≡ l.fn.items.items ++ replicate l._place g.F.Field.zero
