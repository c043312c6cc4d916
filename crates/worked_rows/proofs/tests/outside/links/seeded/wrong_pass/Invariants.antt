use Rattle.std.proofs.Common.{◌≤◌, length}
use Rattle.lif_outside.specs.Seeded.{held_by}
use Rattle.worked_rows.proofs.tests.outside.links.seeded.wrong_pass.Given as goal

abbrev pub invariant-loop-link : goal.invariant-loop-link
invariant-loop-link l = length (held_by l.links).flying ≤ (held_by l.links).room
