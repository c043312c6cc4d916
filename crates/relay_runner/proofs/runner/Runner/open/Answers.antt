-- Nothing came before any generation.
use Rattle.node_stations.specs.Table.{relays_of, sinks_of}
use Rattle.relay_runner.proofs.StandingLaws.{stands}
use Rattle.relay_runner.proofs.runner.Runner.open.Goals as goal

pub returns-clause-stand : goal.returns-clause-stand
returns-clause-stand g c =
    stands c.args.code.now c.args.pattern (relays_of c.in_ok-stations.stations.items) (sinks_of c.in_ok-stations.stations.items)
    c.requires.pattern c.in_ok-stations.ensures.opened
