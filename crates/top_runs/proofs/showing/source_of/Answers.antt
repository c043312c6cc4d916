use Rattle.std.proofs.Common.{arith}
use Rattle.std.proofs.lemmas.List.FromFn.{map-range_with_len_more}
use Rattle.net_maker.specs.Source.{source_byte}
use Rattle.top_runs.proofs.showing.source_of.Goals as goal

pub loop-place-preserved : goal.loop-place-preserved
loop-place-preserved c =
    let more = map-range_with_len_more source_byte 0 c.loop-place.place c.loop-place.place (omega arith) in
    cc (more, c.in_ok-push.ensures.items, c.loop-place.invariant)
