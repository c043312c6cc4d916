use Rattle.node_stations.proofs.TableLaws.{AreFirst}
use Rattle.node_stations.proofs.opening.open_stations.Given as goal

-- the stations so far are those of the first nodes
abbrev pub invariant-nodes : goal.invariant-nodes
invariant-nodes g l = AreFirst l.code l.pattern l.node l.stations.items
