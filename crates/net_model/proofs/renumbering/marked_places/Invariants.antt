use Rattle.std.proofs.Common.{◌≡◌, false, filter, slice_index, slice_index_or}
use Rattle.std.specs.List.{range_with_len}
use Rattle.net_model.proofs.renumbering.marked_places.Given as goal

abbrev pub invariant-loop-place : goal.invariant-loop-place
invariant-loop-place l = l.places.items ≡ filter (λ new. slice_index_or l.marks (slice_index l.order new) false) (range_with_len 0 l.place)
