use Rattle.field_vectors.proofs.ClearSteps.{IsClearing}
use Rattle.field_vectors.proofs.inverse.clear_column.Given as goal

-- the rows before have zero there, beside the diagonal
abbrev pub invariant-loop-i : goal.invariant-loop-i
invariant-loop-i g l = let F = g.F.Field in IsClearing F.is_element F.zero F.one F.add F.mul l.fn.work l.work l.k l.i
