use Rattle.std.proofs.Common.{◌≡◌, ◌*◌, take}
use Rattle.linear_algebra.specs.Elements.{bytes_of_pairs, numbers}
use Rattle.vector_headers.proofs.elements.write_pairs.Given as goal

-- the elements before are written
abbrev pub invariant-loop-i : goal.invariant-loop-i
invariant-loop-i g l = take (2 * l.i) l.into ≡ bytes_of_pairs (numbers g.F.Field.number (take l.i l.vector))
