use Rattle.std.proofs.Common.{◌≡◌, take}
use Rattle.linear_algebra.specs.Elements.{numbers}
use Rattle.vector_headers.proofs.elements.write_octets.Given as goal

-- the elements before are written
abbrev pub invariant-loop-i : goal.invariant-loop-i
invariant-loop-i g l = take l.i l.into ≡ numbers g.F.Field.number (take l.i l.vector)
