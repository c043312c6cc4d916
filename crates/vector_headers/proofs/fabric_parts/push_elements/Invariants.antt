use Rattle.std.proofs.Common.{◌≡◌, ◌++◌, take}
use Rattle.linear_algebra.specs.Elements.{elements_of, numbers}
use Rattle.vector_headers.proofs.fabric_parts.push_elements.Given as goal

-- the first elements are added
abbrev pub invariant-loop-place : goal.invariant-loop-place
invariant-loop-place g l =
    numbers g.F.Field.number l.elements.items ≡ numbers g.F.Field.number l.initial.elements.items ++ take l.place (elements_of l.field l.row)
