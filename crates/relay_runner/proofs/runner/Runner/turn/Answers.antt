use Rattle.std.specs.Prelude.{◌≡◌, ◌++◌, List, Ok, drop, length, take}
use Rattle.std.proofs.Common.{◌∙◌, ap, subst, sym}
use Rattle.std.proofs.lemmas.List.{take_at}
use Rattle.node_stations.specs.Table.{ArePlanned, relays_of, sinks_of}
use Rattle.node_stations.specs.declared.station.Station.{Station}
use Rattle.relay_runner.proofs.PlannedLaws.{planned-after}
use Rattle.relay_runner.proofs.runner.Runner.turn.Goals as goal
use Rattle.relay_runner.specs.Running.{Running, StandAt}

pub invariant_of-self : goal.invariant_of-self
invariant_of-self g c =
    let inside = c.self.inside in
    let code = inside.code.now in
    let pattern = inside.pattern in
    let old : List (Station g.row.F.Denot) = c.deref_mut.result.now in
    let new : List (Station g.row.F.Denot) = c.step.new.stations in
    let flying = g.K.Links.flying c.args.links.now in
    let first : StandAt code pattern (relays_of inside.stations.items) (sinks_of inside.stations.items) flying =
    subst (λ (runner : Running). StandAt runner.code runner.pattern runner.relays runner.sinks flying) (sym c.self.view_is) c.requires.stand in
    let stand : StandAt c.code.result.now pattern (relays_of old) (sinks_of old) flying =
    subst (λ code. StandAt code pattern (relays_of old) (sinks_of old) flying) (sym c.code.ensures.value)
    (subst (λ (stations : List (Station g.row.F.Denot)). StandAt code pattern (relays_of stations) (sinks_of stations) flying)
    (sym c.deref_mut.ensures.value) first) in
    let back : take inside.stations.len (new ++ drop (length new) inside.stations.items) ≡ new =
    take_at new (drop (length new) inside.stations.items) inside.stations.len (c.step.auto.stations ∙ c.deref_mut.ensures.len) in
    let after : ArePlanned c.code.result.now pattern (relays_of new) (sinks_of new) =
    planned-after g.K.Links c.code.result.now pattern c.args.links.now c.step.new.links old new c.in-Ok.turn stand
    (λ is. c.in-Ok.ensures.moved (ap Ok is) pattern) (λ is. c.in-Ok.ensures.same (ap Ok is)) in
    let of_code : ArePlanned code pattern (relays_of new) (sinks_of new) =
    subst (λ code. ArePlanned code pattern (relays_of new) (sinks_of new)) c.code.ensures.value after in
    record {
      pattern_is = c.self.invariant.pattern_is;
      planned = λ works.
          subst (λ (stations : List (Station g.row.F.Denot)). ArePlanned code pattern (relays_of stations) (sinks_of stations)) (sym back) of_code;
      each_sink = c.self.invariant.each_sink;
      rooms = c.self.invariant.rooms;
    }
