use Rattle.std.proofs.Common.{◌≡◌, false, map, slice_index_or, take}
use Rattle.sink_decoder.proofs.opening.live_among.Given as goal

-- of the links so far, whether they are live
abbrev pub invariant-loop-link : goal.invariant-loop-link
invariant-loop-link l = l.among.items ≡ map (λ link. slice_index_or l.live link false) (take l.link-index l.links)
