use Rattle.field_vectors.proofs.FillSteps.{IsFilling}
use Rattle.field_vectors.specs.Grid.{IsMatrix}
use Rattle.field_vectors.proofs.inverse.beside_identity.Given as goal

-- the rows before are filled
abbrev pub invariant-loop-i : goal.invariant-loop-i
invariant-loop-i g l = record {
  kept : IsMatrix g.F.Field.is_element l.work;
  filling : IsFilling g.F.Field.zero g.F.Field.one l.a l.work l.i;
}
