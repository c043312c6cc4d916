use Rattle.std.proofs.Common.{◌≡◌, ◌<◌, ◌++◌, All, map, take}
use Rattle.linear_algebra.specs.Elements.{numbers}
use Rattle.lif_compiler.specs.ReadOff.{row_of_entries}
use Rattle.lif_compiler.specs.declared.decoding.PlacedLink.{PlacedLink}
use Rattle.lif_compiler.proofs.decoding.push_row.Given as goal

-- the numbers for the paths before this one are added
abbrev pub invariant-loop-one : goal.invariant-loop-one
invariant-loop-one g l = record {
  added : l.entries.items
      ≡ l.initial.entries.items ++ row_of_entries (map (numbers g.F.Field.number) l.inverses.rows) (map (λ (one : PlacedLink). one.path) (take l.one-index l.sorted)) l.row;
  below : All (λ entry. entry < g.F.Field.SIZE) l.entries.items;
}
