use Rattle.std.proofs.Common.{◌≡◌, ◌+◌, ◌*◌, ◌<◌, ◌≤◌}
use Rattle.field_vectors.specs.Grid.{IsMatrix}
use Rattle.sink_basis.specs.Renewal.{IsClearedBelow}
use Rattle.sink_basis.proofs.RenewalSteps.{changed_below}
use Rattle.sink_basis.proofs.renewal.clear_others.Given as goal

-- the rows before are cleared, each but the path's in the steps of its product, and as many again where it isn't zero
abbrev pub invariant-loop-k : goal.invariant-loop-k
invariant-loop-k g l =
    let F = g.F.Field in
    let old = l.fn.inverses in
    let turns = l.k + changed_below F.number F.zero F.add F.mul l.path l.vector old l.k in
    record {
      kept : IsMatrix F.is_element l.inverses;
      cleared : IsClearedBelow F.zero F.add F.mul l.path l.vector old l.inverses l.k;
      up_to_path : l.k ≤ l.path → l.steps ≡ l.initial.steps + turns * old.columns;
      past_path : l.path < l.k → l.steps + old.columns ≡ l.initial.steps + turns * old.columns;
    }
