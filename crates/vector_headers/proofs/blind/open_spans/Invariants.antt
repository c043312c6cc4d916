use Rattle.std.proofs.Common.{◌≡◌, [], replicate}
use Rattle.vector_headers.proofs.blind.open_spans.Given as goal

-- so many spans so far
abbrev pub invariant-loop-piece : goal.invariant-loop-piece
invariant-loop-piece l = l.spans.items ≡ replicate l._piece (record { field = l.field; rate = l.rate; rows = [] })
