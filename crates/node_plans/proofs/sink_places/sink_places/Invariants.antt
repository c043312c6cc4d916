use Rattle.std.proofs.Common.{take}
use Rattle.node_plans.specs.SinkPlaces.{AreSinkPlaces}
use Rattle.node_plans.proofs.sink_places.sink_places.Given as goal

-- the places among the sinks before this one
abbrev pub invariant-loop-place : goal.invariant-loop-place
invariant-loop-place l = AreSinkPlaces l.code (take l.place l.code.net.sinks) l.places.items
