use Rattle.std.proofs.Common.{[], get_or}
use Rattle.linear_algebra.specs.Elements.{elements_of, numbers}
use Rattle.vector_headers.proofs.FabricLaws.{AreParts}
use Rattle.vector_headers.proofs.fabric_parts.narrowed.Given as goal

-- the vectors of the links so far stand one after another
abbrev pub invariant-loop-link : goal.invariant-loop-link
invariant-loop-link g l =
    AreParts l.coding.rate l.link (λ e. elements_of l.coding.field (get_or l.wide e [])) (numbers g.F.Field.number l.vectors.items)
