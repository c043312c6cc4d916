use Rattle.std.proofs.Common.{◌≡◌, All, length}
use Rattle.lif_compiler.specs.Bases.{HasMatrices, HasNoLinks, HasUnitVectors}
use Rattle.lif_compiler.proofs.starting.unit_bases.Given as goal

-- so many bases of the unit vectors
abbrev pub invariant-loop : goal.invariant-loop
invariant-loop g l = record {
  count : length l.bases.items ≡ l.counter;
  frontiers : All (HasNoLinks l.rate) l.bases.items;
  vectors : All (HasUnitVectors l.rate) l.bases.items;
  matrices : All HasMatrices l.bases.items;
}
