use Rattle.std.proofs.Common.{◌≡◌, take}
use Rattle.linear_algebra.specs.Elements.{numbers, pairs_of_bytes}
use Rattle.vector_headers.proofs.elements.read_pairs.Given as goal

-- the elements before are read
abbrev pub invariant-loop-i : goal.invariant-loop-i
invariant-loop-i g l = numbers g.F.Field.number (take l.i l.vector) ≡ take l.i (pairs_of_bytes l.bytes)
