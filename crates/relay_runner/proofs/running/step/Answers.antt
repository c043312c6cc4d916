use Rattle.std.proofs.Common.{[], ◌∷◌, Ok, Option, subst}
use Rattle.item_list.proofs.Results.{on_err}
use Rattle.lif_outside.specs.Moves.{take_move}
use Rattle.lif_outside.specs.declared.links.Flight.{Flight}
use Rattle.node_stations.specs.Table.{relays_of, sinks_of}
use Rattle.relay_runner.proofs.SteppingLaws as stepping
use Rattle.relay_runner.proofs.StoppingLaws.{stops-take}
use Rattle.relay_runner.proofs.TurningLaws.{is_of_put}
use Rattle.relay_runner.proofs.running.step.Goals as goal

pub packet_given-packet-requires : goal.packet_given-packet-requires
packet_given-packet-requires g c =
    let stand = c.requires.stand.1 in
    let made = subst (λ (o : Option Flight). g.K.Links.moves (take_move (Ok o) ∷ []) c.args.links.now c.take.new.self) c.in-Some.is c.in_ok-flight.ensures in
    is_of_put g.K.Links g.met.K.Links.accounts g.met.K.Links.more_moves c.args.code.now c.requires.stand.0 stand.window stand.run
    (relays_of c.args.stations.now) (sinks_of c.args.stations.now) stand.state c.args.links.now stand.running c.in-Some.flight c.take.new.self made

pub at-requires : goal.at-requires
at-requires g c =
    let stand = c.requires.stand.1 in
    let made = subst (λ (o : Option Flight). g.K.Links.moves (take_move (Ok o) ∷ []) c.args.links.now c.take.new.self) c.in-Some.is c.in_ok-flight.ensures in
    stepping.link-below g.K.Links g.met.K.Links.accounts g.met.K.Links.more_moves c.args.code.now c.args.stations.now c.args.links.now c.in-Some.flight c.take.new.self made
    c.packet_given-packet.result c.packet_given-packet.ensures.value c.requires.stand.0 stand.window stand.run stand.state stand.running

pub bounds-stations-node : goal.bounds-stations-node
bounds-stations-node g c =
    let stand = c.requires.stand.1 in
    let made = subst (λ (o : Option Flight). g.K.Links.moves (take_move (Ok o) ∷ []) c.args.links.now c.take.new.self) c.in-Some.is c.in_ok-flight.ensures in
    stepping.head-below g.K.Links g.met.K.Links.accounts g.met.K.Links.more_moves c.args.code.now c.args.stations.now c.args.links.now c.in-Some.flight c.take.new.self made
    c.packet_given-packet.result c.packet_given-packet.ensures.value c.requires.stand.0 stand.window stand.run stand.state stand.running c.at.result.now c.at.ensures

pub pass_on-requires-clause-link : goal.pass_on-requires-clause-link
pass_on-requires-clause-link g c =
    let stand = c.requires.stand.1 in
    let made = subst (λ (o : Option Flight). g.K.Links.moves (take_move (Ok o) ∷ []) c.args.links.now c.take.new.self) c.in-Some.is c.in_ok-flight.ensures in
    stepping.into g.K.Links g.met.K.Links.accounts g.met.K.Links.more_moves c.args.code.now c.args.stations.now c.args.links.now c.in-Some.flight c.take.new.self made
    c.packet_given-packet.result c.packet_given-packet.ensures.value c.requires.stand.0 stand.window stand.run stand.state stand.running c.at.result.now c.at.ensures
    c.index-stations-node.result

pub pass_on-requires-clause-begun : goal.pass_on-requires-clause-begun
pass_on-requires-clause-begun g c =
    let stand = c.requires.stand.1 in
    let made = subst (λ (o : Option Flight). g.K.Links.moves (take_move (Ok o) ∷ []) c.args.links.now c.take.new.self) c.in-Some.is c.in_ok-flight.ensures in
    stepping.begun g.K.Links g.met.K.Links.accounts g.met.K.Links.more_moves c.args.code.now c.args.stations.now c.args.links.now c.in-Some.flight c.take.new.self made
    c.packet_given-packet.result c.packet_given-packet.ensures.value c.requires.stand.0 stand.window stand.run stand.state stand.running c.at.result.now c.at.ensures
    c.index-stations-node.result

pub pass_on-requires-clause-sink_begun : goal.pass_on-requires-clause-sink_begun
pass_on-requires-clause-sink_begun g c =
    let stand = c.requires.stand.1 in
    let made = subst (λ (o : Option Flight). g.K.Links.moves (take_move (Ok o) ∷ []) c.args.links.now c.take.new.self) c.in-Some.is c.in_ok-flight.ensures in
    stepping.sink_begun g.K.Links g.met.K.Links.accounts g.met.K.Links.more_moves c.args.code.now c.args.stations.now c.args.links.now c.in-Some.flight c.take.new.self made
    c.packet_given-packet.result c.packet_given-packet.ensures.value c.requires.stand.0 stand.window stand.run stand.state stand.running c.at.result.now c.at.ensures
    c.index-stations-node.result

pub pass_on-requires-clause-room : goal.pass_on-requires-clause-room
pass_on-requires-clause-room g c =
    let stand = c.requires.stand.1 in
    let made = subst (λ (o : Option Flight). g.K.Links.moves (take_move (Ok o) ∷ []) c.args.links.now c.take.new.self) c.in-Some.is c.in_ok-flight.ensures in
    stepping.room g.K.Links g.met.K.Links.accounts g.met.K.Links.more_moves c.args.code.now c.args.stations.now c.args.links.now c.in-Some.flight c.take.new.self made
    c.packet_given-packet.result c.packet_given-packet.ensures.value c.requires.stand.0 stand.window stand.run stand.state stand.running c.at.result.now c.at.ensures
    c.index-stations-node.result c.requires.room

pub returns-in_err-flight-clause-stopped : goal.returns-in_err-flight-clause-stopped
returns-in_err-flight-clause-stopped g c =
    on_err c.from_residual.result (λ pattern window run state running.
    stops-take g.K.Links c.args.code.now pattern window run (relays_of c.args.stations.now) (sinks_of c.args.stations.now) (g.K.Links.flying c.args.links.now) state running
    c.args.links.now c.take.new.self c.in_err-flight.ensures)

pub returns-in_err-pass_on-clause-stopped : goal.returns-in_err-pass_on-clause-stopped
returns-in_err-pass_on-clause-stopped g c =
    let made = subst (λ (o : Option Flight). g.K.Links.moves (take_move (Ok o) ∷ []) c.args.links.now c.take.new.self) c.in-Some.is c.in_ok-flight.ensures in
    on_err c.from_residual-in_err-pass_on.result (λ pattern window run state running.
    stepping.stops-at g.K.Links g.met.K.Links.accounts g.met.K.Links.more_moves c.args.code.now c.args.stations.now c.args.links.now c.in-Some.flight c.take.new.self made
    c.packet_given-packet.result c.packet_given-packet.ensures.value pattern window run state running c.at.result.now c.at.ensures
    c.index-stations-node.result c.pass_on.new.links c.pass_on.new.self c.in_err-pass_on.ensures.failed)

pub returns-clause-moved : goal.returns-clause-moved
returns-clause-moved g c = λ is pattern window run state running.
    let made = subst (λ (o : Option Flight). g.K.Links.moves (take_move (Ok o) ∷ []) c.args.links.now c.take.new.self) c.in-Some.is c.in_ok-flight.ensures in
    stepping.steps-at g.K.Links g.met.K.Links.accounts g.met.K.Links.more_moves c.args.code.now c.args.stations.now c.args.links.now c.in-Some.flight c.take.new.self made
    c.packet_given-packet.result c.packet_given-packet.ensures.value pattern window run state running c.at.result.now c.at.ensures
    c.index-stations-node.result c.pass_on.new.links c.pass_on.new.self c.in_ok-pass_on.ensures.passed c.in_ok-pass_on.ensures.sink
