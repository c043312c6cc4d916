use Rattle.field_vectors.proofs.FillSteps.{IsHalving}
use Rattle.field_vectors.specs.Grid.{IsMatrix}
use Rattle.field_vectors.proofs.inverse.right_half.Given as goal

-- the rows before are copied
abbrev pub invariant-loop-i : goal.invariant-loop-i
invariant-loop-i g l = record {
  kept : IsMatrix g.F.Field.is_element l.half;
  halving : IsHalving l.work l.half l.i;
}
