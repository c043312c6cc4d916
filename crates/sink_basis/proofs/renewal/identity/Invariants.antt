use Rattle.field_vectors.specs.Grid.{IsMatrix}
use Rattle.sink_basis.proofs.IdentitySteps.{IsIdentityBelow}
use Rattle.sink_basis.proofs.renewal.identity.Given as goal

-- the rows before are those of the identity
abbrev pub invariant-loop-i : goal.invariant-loop-i
invariant-loop-i g l = record {
  kept : IsMatrix g.F.Field.is_element l.matrix;
  filled : IsIdentityBelow g.F.Field.zero g.F.Field.one l.size l.matrix l.i;
}
