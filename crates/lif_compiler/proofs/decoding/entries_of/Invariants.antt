use Rattle.std.proofs.Common.{◌≡◌, ◌<◌, All, map}
use Rattle.linear_algebra.specs.Elements.{numbers}
use Rattle.lif_compiler.specs.ReadOff.{entries_of_paths}
use Rattle.lif_compiler.specs.declared.decoding.PlacedLink.{PlacedLink}
use Rattle.lif_compiler.proofs.decoding.entries_of.Given as goal

-- the numbers at the places before this one
abbrev pub invariant-loop-row : goal.invariant-loop-row
invariant-loop-row g l = record {
  value : l.entries.items ≡ entries_of_paths l.row (map (numbers g.F.Field.number) l.inverses.rows) (map (λ (one : PlacedLink). one.path) l.sorted);
  below : All (λ entry. entry < g.F.Field.SIZE) l.entries.items;
}
