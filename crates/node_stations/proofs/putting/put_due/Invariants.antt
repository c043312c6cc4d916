use Rattle.std.proofs.Common.{◌-◌, length}
use Rattle.node_stations.proofs.putting.put_due.Given as goal
use Rattle.node_stations.specs.Putting.{Puts}

abbrev pub invariant-due : goal.invariant-due
invariant-due g l = Puts g.K.Links l.initial.links l.links l.initial.node l.node

-- each turn but the last takes up room
abbrev pub decreases-due : goal.decreases-due
decreases-due g l = g.K.Links.room l.links - length (g.K.Links.flying l.links)
