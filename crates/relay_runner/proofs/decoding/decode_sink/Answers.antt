use Rattle.std.specs.Prelude.{◌+◌}
use Rattle.std.proofs.Common.{◌∙◌, ap}
use Rattle.node_stations.specs.Table.{sinks_of}
use Rattle.node_stations.specs.declared.station.Station.{Station}
use Rattle.sink_decoder.specs.Receiving.{Receiver, decoded}
use Rattle.relay_runner.proofs.DecodingLaws.{has-sink, node-station, one-stands, stands-there}
use Rattle.relay_runner.proofs.decoding.decode_sink.Goals as goal
use Rattle.relay_runner.proofs.decoding.decode_sink.Goals.{In-Some}
use Rattle.relay_runner.specs.Decoding.{StandsAt}

pub bounds-stations-node : goal.bounds-stations-node
bounds-stations-node g c =
    node-station c.args.code.now c.args.stations.now c.args.first c.args.count c.args.sink c.at-node.result.now c.requires.can c.requires.sink c.at-node.ensures

-- the receiver that decodes stands at the sink
stands : (g : _) (c : In-Some g) → StandsAt c.args.code.now (sinks_of c.args.stations.now) c.args.sink c.in-Some.decoder
stands g c =
    stands-there c.args.code.now c.args.stations.now c.args.first c.args.count c.args.sink c.at-node.result.now c.requires.can c.requires.sink c.at-node.ensures
    c.index-stations-node.result c.index-stations-node.is c.in-Some.decoder
    (ap (λ (station : Station g.row.F.Denot). station.sink) c.index-stations-node.is ∙ c.in-Some.is)

pub decode-requires-clause-all : goal.decode-requires-clause-all
decode-requires-clause-all g c =
    c.requires.can.all c.args.sink c.in-Some.decoder (stands g (goal.at.decode-requires-clause-all g c).In-Some)

pub unreachable-requires : goal.unreachable-requires
unreachable-requires g c =
    has-sink c.args.code.now c.args.stations.now c.args.first c.args.count c.args.sink c.at-node.result.now c.requires.can c.requires.sink c.at-node.ensures
    c.index-stations-node.result c.index-stations-node.is
    (ap (λ (station : Station g.row.F.Denot). station.sink) c.index-stations-node.is ∙ c.in-None.is)

pub returns-clause-blocks : goal.returns-clause-blocks
returns-clause-blocks g c = λ receiver there place low.
    c.decode.ensures.blocks place low
    ∙ ap (λ (receiver : Receiver). decoded receiver (c.args.first + place))
    (one-stands c.args.code.now (sinks_of c.args.stations.now) c.args.sink c.in-Some.decoder receiver
    (stands g (goal.at.returns-clause-blocks g c).In-Some) there)
