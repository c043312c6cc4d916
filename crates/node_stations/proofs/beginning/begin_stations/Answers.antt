use Rattle.std.proofs.Common.{arith}
use Rattle.node_stations.proofs.TableLaws.{begun_more, begun_none, have_begun}
use Rattle.node_stations.proofs.beginning.begin_stations.Goals as goal

pub stations-init : goal.stations-init
stations-init g c = begun_none c.args.first c.args.count c.args.stations.now

pub stations-preserved : goal.stations-preserved
stations-preserved g c =
    let begins = c.begin.ensures in
    begun_more c.args.first c.args.count c.stations.station-index c.args.stations.now c.stations.stations c.station-item.result c.begin.new.self
    c.stations.invariant (omega arith)
    (record {
      node = record { same_plan = begins.plan; from_first = begins.first; has_count = begins.count; nothing = begins.nothing };
      sink = begins.sink;
    })

pub returns : goal.returns
returns g c = have_begun c.args.first c.args.count c.stations.station-index c.args.stations.now c.stations.stations c.stations.invariant (omega arith)
