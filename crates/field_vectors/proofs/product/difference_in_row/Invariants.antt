use Rattle.std.proofs.Common.{◌≡◌, ◌<◌, ◌*◌, ℕ}
use Rattle.counted_steps.specs.Steps.{RoseByAtMost}
use Rattle.field_vectors.specs.Difference.{product_entry, identity_entry}
use Rattle.field_vectors.proofs.product.difference_in_row.Given as goal

-- the entries before are those of the identity
abbrev pub invariant-loop-j : goal.invariant-loop-j
invariant-loop-j g l =
    let F = g.F.Field in
    record {
      before : (j : ℕ) → j < l.j → product_entry F.zero F.add F.mul l.a l.b l.i j ≡ identity_entry F.zero F.one l.i j;
      ticks : RoseByAtMost (l.j * l.a.columns) l.initial.steps l.steps;
    }
