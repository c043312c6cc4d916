use Rattle.std.proofs.Common.{◌≡◌, map, take}
use Rattle.net_reader.specs.Text.{number_in}
use Rattle.net_reader.proofs.parts.sink_list.Given as goal

abbrev pub invariant-loop-sink : goal.invariant-loop-sink
invariant-loop-sink l = l.list.items ≡ map (number_in l.nodes) (map (λ sink. sink.now) (take l.sink-index l.sinks))
