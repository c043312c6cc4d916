use Rattle.std.proofs.Common.{◌≡◌}
use Rattle.held_rows.specs.Held.{row_count}
use Rattle.worked_nodes.proofs.tests.rows.are_held.Given as goal

abbrev pub invariant-loop-piece : goal.invariant-loop-piece
invariant-loop-piece l = row_count l.rows ≡ 2
