use Rattle.std.proofs.Common.{◌≡◌, take, All}
use Rattle.field_vectors.proofs.RowSteps.{joined_below}
use Rattle.field_vectors.proofs.parts.copy_elements.Given as goal

-- the places before are copied
abbrev pub invariant-loop-place : goal.invariant-loop-place
invariant-loop-place g l =
    record {
      value : l.into ≡ joined_below (λ x y. y) l.place l.fn.into l.from;
      elements : All g.F.Field.is_element (take l.place l.from);
    }
