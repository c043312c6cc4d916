use Rattle.std.proofs.Common.{◌≡◌, ◌++◌, map}
use Rattle.std.specs.List.{range_with_len}
use Rattle.net_maker.specs.Combination.{entry_link}
use Rattle.net_maker.proofs.maker.push_entry_links.Given as goal

abbrev pub invariant-loop-before : goal.invariant-loop-before
invariant-loop-before l = l.links.items ≡ l.initial.links.items ++ map entry_link (range_with_len 1 l.before)
