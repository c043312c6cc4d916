use Rattle.std.proofs.Common.{◌≡◌}
use Rattle.std.specs.Prelude.{replicate}
use Rattle.field_vectors.specs.Grid.{grid_of}
use Rattle.lif_compiler.proofs.starting.zero_vectors.Given as goal

-- so many matrices of zeros
abbrev pub invariant-loop : goal.invariant-loop
invariant-loop g l = l.vectors.items ≡ replicate l.counter (grid_of l.links l.rate g.F.Field.zero)
