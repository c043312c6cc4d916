use Rattle.field_vectors.specs.Elimination.{IsStep, IsReduced}
use Rattle.field_vectors.proofs.inverse.reduce.Given as goal

-- the columns before are those of the identity
abbrev pub invariant-loop-k : goal.invariant-loop-k
invariant-loop-k g l =
    let F = g.F.Field in
    record {
      step : IsStep F.is_element F.zero F.add F.mul l.fn.work l.work;
      reduced : IsReduced F.zero F.one l.work l.k;
    }
