use Rattle.std.proofs.Common.{◌+◌, ◌≤◌, length}
use Rattle.worked_rows.proofs.tests.outside.links.wrong_put.Given as goal

abbrev pub invariant-loop-row : goal.invariant-loop-row
invariant-loop-row g l = length (g.L.Links.flying l.links) + l.free ≤ g.L.Links.room l.links
