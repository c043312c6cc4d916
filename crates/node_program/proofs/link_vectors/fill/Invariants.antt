use Rattle.node_program.specs.Vectors.{AreVectorsBefore}
use Rattle.node_program.proofs.link_vectors.fill.Given as goal

-- the rows of the links so far are their vectors
abbrev pub invariant-loop-link : goal.invariant-loop-link
invariant-loop-link g l = AreVectorsBefore g.F.Field.number g.F.Field.zero l.code l.pattern l.link l.vectors
