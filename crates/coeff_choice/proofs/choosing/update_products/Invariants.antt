use Rattle.std.proofs.Common.{◌≡◌, ◌<◌, ◌≤◌, ℕ, get_or}
use Rattle.counted_steps.specs.Steps.{RoseBy}
use Rattle.field_vectors.specs.Grid.{entry_of}
use Rattle.coeff_choice.proofs.choosing.update_products.Given as goal

-- the products before are those with the changed coefficients, and the others are as they were
abbrev pub invariant-loop-row : goal.invariant-loop-row
invariant-loop-row g l =
    let F = g.F.Field in
    record {
      before : (r : ℕ) → r < l.row → get_or l.products r F.zero ≡ F.add (F.mul l.by (get_or l.fn.products r F.zero)) (entry_of F.zero l.table r l.place);
      behind : (r : ℕ) → l.row ≤ r → get_or l.products r F.zero ≡ get_or l.fn.products r F.zero;
      ticks : RoseBy l.row l.fn.steps l.steps;
    }
