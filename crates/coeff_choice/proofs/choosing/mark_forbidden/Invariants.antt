use Rattle.std.proofs.Common.{◌*◌}
use Rattle.counted_steps.specs.Steps.{RoseBy}
use Rattle.coeff_choice.specs.Choosing.{IsMarked}
use Rattle.coeff_choice.proofs.choosing.mark_forbidden.Given as goal

-- the numbers for the rows before are marked
abbrev pub invariant-loop-row : goal.invariant-loop-row
invariant-loop-row g l =
    let F = g.F.Field in
    record {
      marked : IsMarked F.zero F.mul F.inv F.number l.table l.place l.products l.row l.marks;
      ticks : RoseBy (2 * l.row) l.fn.steps l.steps;
    }
