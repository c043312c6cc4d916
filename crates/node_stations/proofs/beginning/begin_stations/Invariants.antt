use Rattle.node_stations.proofs.TableLaws.{HaveBegunTo}
use Rattle.node_stations.proofs.beginning.begin_stations.Given as goal

-- the stations so far have begun
abbrev pub invariant-stations : goal.invariant-stations
invariant-stations g l = HaveBegunTo l.first l.count l.station-index l.initial.stations l.stations
