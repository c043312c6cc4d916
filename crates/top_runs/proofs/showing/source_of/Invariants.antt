use Rattle.std.proofs.Common.{◌≡◌, map}
use Rattle.std.specs.List.{range_with_len}
use Rattle.net_maker.specs.Source.{source_byte}
use Rattle.top_runs.proofs.showing.source_of.Given as goal

-- the bytes so far
abbrev pub invariant-loop-place : goal.invariant-loop-place
invariant-loop-place l = l.source.items ≡ map source_byte (range_with_len 0 l.place)
