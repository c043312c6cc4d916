use Rattle.std.proofs.Common.{◌≤◌, ◌-◌, length}
use Rattle.field_rows.specs.Added.{IsAddedBelow, of_byte}
use Rattle.field_rows.proofs.plain.add_row.Given as goal

abbrev pub invariant-loop-at : goal.invariant-loop-at
invariant-loop-at l = record {
  within : l.at ≤ length l.from;
  added : IsAddedBelow (of_byte (λ byte. byte) l.from) l.at l.fn.into l.into;
}

abbrev pub decreases-loop-at : goal.decreases-loop-at
decreases-loop-at l = length l.from - l.at

abbrev pub invariant-loop-place : goal.invariant-loop-place
invariant-loop-place l = IsAddedBelow (of_byte (λ byte. byte) l.from) l.place l.fn.into l.into
