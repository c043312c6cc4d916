use Rattle.std.proofs.Common.{◌≡◌, length, replicate, take}
use Rattle.std.specs.List.{flat_map}
use Rattle.code_items.proofs.decoders.sinks_of_demands.Given as goal

abbrev pub invariant-loop-sink : goal.invariant-loop-sink
invariant-loop-sink l = l.all.items ≡ flat_map (λ sink. replicate (length l.fn.front.patterns) sink) (take l.sink-index l.sinks)
