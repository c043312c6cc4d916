use Rattle.std.proofs.Common.{◌+◌, ℕ, List, Some, ap, arith, length, slice_index_or, slice_set, subst, sym, take}
use Rattle.node_plans.proofs.SinkLaws.{AreSinkPlaces-more, place-fits}
use Rattle.node_plans.specs.SinkPlaces.{AreSinkPlaces}
use Rattle.node_plans.proofs.sink_places.sink_places.Goals as goal

pub overflow_cast-place : goal.overflow_cast-place
overflow_cast-place c =
    let all = ap (length {A = ℕ}) c.as_slice-sink-items.ensures in
    omega (arith, place-fits c.args.code.now c.loop-place.place (omega (arith, all, c.loop-place-test.true)))

pub loop-place-preserved : goal.loop-place-preserved
loop-place-preserved c =
    let code = c.args.code.now in
    let place = c.loop-place.place in
    let places = c.loop-place.places.items in
    let all = ap (length {A = ℕ}) c.as_slice-sink-items.ensures in
    subst (λ (sinks : List ℕ). AreSinkPlaces code (take (place + 1) code.net.sinks) (slice_set places (slice_index_or sinks place 0) (Some place)))
    (sym c.as_slice-sink-items.ensures)
    (AreSinkPlaces-more code place (omega (arith, all, c.loop-place-test.true)) places c.loop-place.invariant)
