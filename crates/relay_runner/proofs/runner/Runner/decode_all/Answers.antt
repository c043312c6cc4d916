-- The sinks of the stations decode, and what they decoded takes the place of what stood there.
use Rattle.std.specs.Prelude.{List}
use Rattle.std.proofs.Common.{subst, sym}
use Rattle.node_program.specs.declared.code.Code.{Code}
use Rattle.node_stations.specs.Table.{sinks_of}
use Rattle.node_stations.specs.declared.station.Station.{Station}
use Rattle.relay_runner.proofs.BlockLaws.{can-decode}
use Rattle.relay_runner.proofs.runner.Runner.decode_all.Goals as goal
use Rattle.relay_runner.specs.Decoding.{CanDecode}
use Rattle.relay_runner.specs.Running.{Running}

pub decode_sinks-requires-clause-can : goal.decode_sinks-requires-clause-can
decode_sinks-requires-clause-can g c κs within =
    let inside = c.self.inside in
    let can : CanDecode inside.code.now (sinks_of inside.stations.items) inside.first inside.count =
    subst (λ (runner : Running). CanDecode runner.code runner.sinks runner.first runner.count) (sym c.self.view_is)
    (can-decode c.args.self.now c.requires.carried) in
    subst (λ (code : Code). CanDecode code (sinks_of c.deref.result.now) inside.first inside.count) (sym c.code.ensures.value)
    (subst (λ (stations : List (Station g.row.F.Denot)). CanDecode inside.code.now (sinks_of stations) inside.first inside.count)
    (sym c.deref.ensures.value) can)
