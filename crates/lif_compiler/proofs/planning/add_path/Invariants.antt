use Rattle.std.proofs.Common.{◌≡◌, map, slice_index}
use Rattle.lif_compiler.specs.Hops.{before_place}
use Rattle.lif_compiler.specs.Planning.{Gains, hops_on_path}
use Rattle.lif_compiler.proofs.planning.add_path.Given as goal

-- the hops of the links before this one are added
abbrev pub invariant-loop-old : goal.invariant-loop-old
invariant-loop-old l =
    let links = map (slice_index l.new_numbers) l.links in
    record {
      before : l.before ≡ before_place l.path links l.old-index;
      added : Gains (hops_on_path l.demand l.path links l.old-index) l.initial.hops l.hops;
    }
