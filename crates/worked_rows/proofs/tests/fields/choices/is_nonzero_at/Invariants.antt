use Rattle.std.proofs.Common.{◌≢◌, ◌<◌, ℕ, get_or}
use Rattle.field_vectors.specs.Grid.{entry_of}
use Rattle.worked_rows.proofs.tests.fields.choices.is_nonzero_at.Given as goal

-- the rows before are not zero at their places
abbrev pub invariant-loop-row : goal.invariant-loop-row
invariant-loop-row g l =
    let zero = g.F.Field.zero in
    record {
      within : (r : ℕ) → r < l.row → get_or l.places r 0 < l.matrix.columns;
      nonzero : (r : ℕ) → r < l.row → entry_of zero l.matrix r (get_or l.places r 0) ≢ zero;
    }
