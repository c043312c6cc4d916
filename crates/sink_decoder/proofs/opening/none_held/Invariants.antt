use Rattle.std.proofs.Common.{◌≡◌, length, All}
use Rattle.held_rows.specs.Held.{row_count}
use Rattle.sink_decoder.proofs.opening.none_held.Given as goal

-- so many generations have their rows
abbrev pub invariant-loop : goal.invariant-loop
invariant-loop l = record {
  count : length l.came.items ≡ l.counter;
  rows : All (λ held. row_count held ≡ l.rows) l.came.items;
}
