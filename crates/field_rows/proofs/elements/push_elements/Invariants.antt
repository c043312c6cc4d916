use Rattle.std.proofs.Common.{◌≡◌, ◌++◌, take}
use Rattle.linear_algebra.specs.Elements.{elements_of}
use Rattle.field_rows.proofs.elements.push_elements.Given as goal

-- the first elements are added
abbrev pub invariant-loop-place : goal.invariant-loop-place
invariant-loop-place l = l.elements.items ≡ l.initial.elements.items ++ take l.place (elements_of l.field l.row)
