use Rattle.std.proofs.Common.{◌≡◌, map}
use Rattle.std.specs.List.{range_with_len}
use Rattle.lif_compiler.specs.ReadOff.{placed_link}
use Rattle.lif_compiler.proofs.decoding.placed_links.Given as goal

-- the links of the paths before this one
abbrev pub invariant-loop-path : goal.invariant-loop-path
invariant-loop-path l = l.placed.items ≡ map (placed_link l.frontier) (range_with_len 0 l.path)
