use Rattle.std.proofs.Common.{◌≡◌, ◌≤◌, ◌-◌, length, drop}
use Rattle.counted_steps.specs.Steps.{RoseBy}
use Rattle.field_vectors.specs.Elements.{dot_of}
use Rattle.field_vectors.proofs.rows.dot.Given as goal

-- the sum is that of the places behind
abbrev pub invariant-loop-place : goal.invariant-loop-place
invariant-loop-place g l =
    let F = g.F.Field in
    record {
      within : l.place ≤ length l.a;
      element : F.is_element l.sum;
      value : l.sum ≡ dot_of F.zero F.add F.mul (drop l.place l.a) (drop l.place l.b);
      ticks : RoseBy (length l.a - l.place) l.initial.steps l.steps;
    }
