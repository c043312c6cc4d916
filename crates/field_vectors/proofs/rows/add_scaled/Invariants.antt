use Rattle.std.proofs.Common.{◌≡◌}
use Rattle.counted_steps.specs.Steps.{RoseBy}
use Rattle.field_vectors.proofs.RowSteps.{joined_below}
use Rattle.field_vectors.proofs.rows.add_scaled.Given as goal

-- the places before are done
abbrev pub invariant-loop-place : goal.invariant-loop-place
invariant-loop-place g l =
    let F = g.F.Field in
    record {
      value : l.into ≡ joined_below (λ x y. F.add x (F.mul l.by y)) l.place l.fn.into l.from;
      ticks : RoseBy l.place l.fn.steps l.steps;
    }
