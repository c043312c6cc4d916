use Rattle.std.proofs.Common.{◌≡◌, ◌++◌, map, take, drop}
use Rattle.counted_steps.specs.Steps.{RoseBy}
use Rattle.field_vectors.proofs.rows.scale.Given as goal

-- the places before are done
abbrev pub invariant-loop-place : goal.invariant-loop-place
invariant-loop-place g l =
    let F = g.F.Field in
    record {
      value : l.into ≡ map (F.mul l.by) (take l.place l.fn.into) ++ drop l.place l.fn.into;
      ticks : RoseBy l.place l.fn.steps l.steps;
    }
