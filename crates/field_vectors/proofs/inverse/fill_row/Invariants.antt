use Rattle.std.proofs.Common.{◌≡◌}
use Rattle.field_vectors.proofs.RowSteps.{joined_below}
use Rattle.field_vectors.specs.Grid.{row_of, with_row}
use Rattle.field_vectors.proofs.inverse.fill_row.Given as goal

-- the places before are copied
abbrev pub invariant-loop-j : goal.invariant-loop-j
invariant-loop-j g l = l.work ≡ with_row l.fn.work l.i (joined_below (λ x y. y) l.j (row_of l.fn.work l.i) (row_of l.a l.i))
