use Rattle.std.proofs.Common.{map, slice_index}
use Rattle.lif_compiler.specs.Planning.{Gains, hops_on_paths}
use Rattle.lif_compiler.proofs.planning.add_demand.Given as goal

-- the hops of the paths before this one are added
abbrev pub invariant-loop-path : goal.invariant-loop-path
invariant-loop-path l = Gains (hops_on_paths l.demand (map (map (slice_index l.new_numbers)) l.paths) l.path) l.initial.hops l.hops
