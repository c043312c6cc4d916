use Rattle.std.proofs.Common.{◌≡◌, ◌≤◌, ◌-◌, drop}
use Rattle.counted_steps.specs.Steps.{RoseBy}
use Rattle.field_vectors.specs.Elements.{dot_of, column_of}
use Rattle.field_vectors.specs.Grid.{row_of}
use Rattle.field_vectors.proofs.product.product_entry.Given as goal

-- the sum is that of the places behind
abbrev pub invariant-loop-k : goal.invariant-loop-k
invariant-loop-k g l =
    let F = g.F.Field in
    record {
      within : l.k ≤ l.a.columns;
      value : l.sum ≡ dot_of F.zero F.add F.mul (drop l.k (row_of l.a l.i)) (drop l.k (column_of F.zero l.j l.b.rows));
      ticks : RoseBy (l.a.columns - l.k) l.initial.steps l.steps;
    }
