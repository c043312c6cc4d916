use Rattle.std.proofs.Common.{◌≡◌, ◌≤◌, ◌-◌, ◌++◌}
use Rattle.std.specs.List.{range_with_len}
use Rattle.net_reader.proofs.bundles.push_range.Given as goal

-- the numbers so far are added
abbrev pub invariant-loop-number : goal.invariant-loop-number
invariant-loop-number l = (l.numbers.items ≡ l.fn.numbers.items ++ range_with_len l.first (l.number - l.first)) × (l.first ≤ l.number)
