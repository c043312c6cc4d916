use Rattle.counted_steps.specs.Steps.{RoseByAtMost}
use Rattle.coeff_choice.specs.Choice.{choice_steps}
use Rattle.coeff_choice.specs.Choosing.{IsChoosing}
use Rattle.coeff_choice.proofs.choosing.choose.Given as goal

-- the products with the rows before are not zero
abbrev pub invariant-loop-row : goal.invariant-loop-row
invariant-loop-row g l =
    let F = g.F.Field in
    record {
      chosen : IsChoosing F.is_element F.zero F.add F.mul l.table l.row l.choosing.coefficients.items l.choosing.products.items l.choosing.marks.items;
      ticks : RoseByAtMost (choice_steps l.row l.table.columns) l.initial.steps l.steps;
    }
