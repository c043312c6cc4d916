use Rattle.std.proofs.lemmas.Result.{err_from_is_err_and}
use Rattle.code_items.specs.Reading.{decoder_at}
use Rattle.code_items.specs.Gives.{left_of}
use Rattle.code_items.specs.Parts.{front_seen}
use Rattle.code_items.proofs.Loop.{each_goes_on, each_ends, each_is_done}
use Rattle.code_items.proofs.decoders.counted_decoders.Goals as goal

pub returns-in_err-one : goal.returns-in_err-one
returns-in_err-one c =
    let p = err_from_is_err_and c.from_residual-in_err-one.result c.from_residual-in_err-one.ensures.1 in
    rw (p.1, p.2) (each_ends (λ _. decoder_at (front_seen c.args.front.now)) c.args.sinks.now c.loop-sink.sink-index c.loop-sink.decoders.items (left_of c.loop-sink.rest) _ 0 c.in_err-one.field-0.0 c.loop-sink-test.true c.in_err-one.ensures c.loop-sink.invariant)

pub loop-sink-preserved : goal.loop-sink-preserved
loop-sink-preserved c =
    rw c.in_ok-push.ensures.items (each_goes_on (λ _. decoder_at (front_seen c.args.front.now)) c.args.sinks.now c.loop-sink.sink-index c.loop-sink.decoders.items (left_of c.loop-sink.rest) _ 0 c.in_ok-one.one (left_of c.in_ok-one.after) c.loop-sink-test.true c.in_ok-one.ensures c.loop-sink.invariant)

pub returns : goal.returns
returns c = each_is_done (λ _. decoder_at (front_seen c.args.front.now)) c.args.sinks.now c.loop-sink.sink-index c.loop-sink.decoders.items (left_of c.loop-sink.rest) _ c.loop-sink-test.false c.loop-sink.invariant
