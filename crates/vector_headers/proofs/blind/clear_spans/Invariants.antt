use Rattle.std.proofs.Common.{◌≡◌, ◌++◌, map, take, drop}
use Rattle.vector_headers.specs.Held.{emptied}
use Rattle.vector_headers.proofs.blind.clear_spans.Given as goal

-- those so far are emptied
abbrev pub invariant-loop-span : goal.invariant-loop-span
invariant-loop-span l = l.spans ≡ map emptied (take l.span-index l.initial.spans) ++ drop l.span-index l.initial.spans
