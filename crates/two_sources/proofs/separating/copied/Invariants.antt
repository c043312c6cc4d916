use Rattle.std.proofs.Common.{◌≡◌}
use Rattle.std.specs.List.{range_with_len}
use Rattle.two_sources.proofs.separating.copied.Given as goal

-- the numbers so far, in order
abbrev pub invariant-loop-link : goal.invariant-loop-link
invariant-loop-link l = l.order.items ≡ range_with_len 0 l.link
