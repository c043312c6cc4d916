use Rattle.std.proofs.Common.{◌≡◌, ◌<◌, ◌*◌, ℕ}
use Rattle.counted_steps.specs.Steps.{RoseByAtMost}
use Rattle.field_vectors.specs.Difference.{product_entry, identity_entry}
use Rattle.field_vectors.proofs.product.is_identity_product.Given as goal

-- the rows before are those of the identity
abbrev pub invariant-loop-i : goal.invariant-loop-i
invariant-loop-i g l =
    let F = g.F.Field in
    record {
      before : (i j : ℕ) → i < l.i → j < l.b.columns → product_entry F.zero F.add F.mul l.a l.b i j ≡ identity_entry F.zero F.one i j;
      ticks : RoseByAtMost (l.i * (l.b.columns * l.a.columns)) l.initial.steps l.steps;
    }
