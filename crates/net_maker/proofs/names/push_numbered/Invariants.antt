use Rattle.std.proofs.Common.{◌≡◌, ◌++◌, map}
use Rattle.std.specs.List.{range_with_len}
use Rattle.net_maker.specs.Combination.{numbered}
use Rattle.net_maker.proofs.names.push_numbered.Given as goal

abbrev pub invariant-loop-before : goal.invariant-loop-before
invariant-loop-before l = l.names.items ≡ l.initial.names.items ++ map (numbered l.letter) (range_with_len 1 l.before)
