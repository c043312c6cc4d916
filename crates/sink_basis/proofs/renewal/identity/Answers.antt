use Rattle.std.proofs.Common.{◌≤◌, arith, ap, ◌∙◌, set}
use Rattle.field_vectors.specs.Grid.{row_of, with_row}
use Rattle.sink_basis.proofs.IdentitySteps.{identity-none, identity-more, identity-all}
use Rattle.sink_basis.proofs.renewal.identity.Goals as goal

pub loop-i-init : goal.loop-i-init
loop-i-init g c = record {
  kept = c.in_ok-matrix.ensures.kept;
  filled = identity-none g.F.Field.zero g.F.Field.one c.args.size c.in_ok-matrix.matrix c.in_ok-matrix.ensures.value;
}

pub loop-i-preserved : goal.loop-i-preserved
loop-i-preserved g c =
    let F = g.F.Field in
    let m = c.loop-i.matrix in
    let i = c.loop-i.i in
    record {
      kept = c.set.ensures.kept.1;
      filled =
          identity-more F.zero F.one c.args.size m c.set.new.self i (omega arith) c.loop-i.invariant.filled
          (c.set.ensures.value ∙ ap (λ x. with_row m i (set (row_of m i) i x)) c.one.ensures.value);
    }

pub returns-clause-rows : goal.returns-clause-rows
returns-clause-rows g c =
    let all : c.args.size ≤ c.loop-i.i = omega arith in
    identity-all g.F.Field.zero g.F.Field.one c.args.size c.loop-i.matrix c.loop-i.i all c.loop-i.invariant.filled
