use Rattle.std.proofs.Common.{◌≡◌, ◌++◌, map, take}
use Rattle.net_maker.specs.Combination.{sink_link}
use Rattle.net_maker.proofs.maker.push_sink_links.Given as goal

abbrev pub invariant-loop-middle : goal.invariant-loop-middle
invariant-loop-middle l = l.links.items ≡ l.initial.links.items ++ map (sink_link l.n l.sink) (take l.middle-index l.middles)
