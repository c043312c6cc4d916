use Rattle.std.proofs.Common.{◌≡◌, ◌+◌, Ok, ap, ◌∙◌, get_or}
use Rattle.std.proofs.lemmas.Result.{err_from_is_err_and}
use Rattle.std.proofs.lemmas.List.{length_push}
use Rattle.code_items.specs.Reading.{shared_decoder_at}
use Rattle.code_items.specs.Gives.{Fails, left_of}
use Rattle.code_items.specs.Parts.{front_seen}
use Rattle.code_items.proofs.Loop.{each_goes_on, each_ends, each_is_done}
use Rattle.code_items.proofs.shared_decoders.shared_decoders.Goals as goal

pub returns-in_err-one : goal.returns-in_err-one
returns-in_err-one c =
    let p = err_from_is_err_and c.from_residual-in_err-one.result c.from_residual-in_err-one.ensures.1 in
    let fails : Fails c.in_err-one.field-0.0 (shared_decoder_at (front_seen c.args.front.now) c.args.sinks.now c.loop-sink.decoders.items (get_or c.args.sinks.now c.loop-sink.sink-index 0) (left_of c.loop-sink.rest)) = rw (← c.deref.ensures.value) c.in_err-one.ensures.gives in
    rw (p.1, p.2) (each_ends (shared_decoder_at (front_seen c.args.front.now) c.args.sinks.now) c.args.sinks.now c.loop-sink.sink-index c.loop-sink.decoders.items (left_of c.loop-sink.rest) _ 0 c.in_err-one.field-0.0 c.loop-sink-test.true fails c.loop-sink.invariant.so_far)

pub loop-sink-preserved : goal.loop-sink-preserved
loop-sink-preserved c =
    let read : shared_decoder_at (front_seen c.args.front.now) c.args.sinks.now c.loop-sink.decoders.items (get_or c.args.sinks.now c.loop-sink.sink-index 0) (left_of c.loop-sink.rest) ≡ Ok (c.in_ok-one.one, left_of c.in_ok-one.after) = rw (← c.deref.ensures.value) c.in_ok-one.ensures.gives in
    record {
      so_far = rw c.in_ok-push.ensures.items (each_goes_on (shared_decoder_at (front_seen c.args.front.now) c.args.sinks.now) c.args.sinks.now c.loop-sink.sink-index c.loop-sink.decoders.items (left_of c.loop-sink.rest) _ 0 c.in_ok-one.one (left_of c.in_ok-one.after) c.loop-sink-test.true read c.loop-sink.invariant.so_far);
      firsts = rw (c.in_ok-push.ensures.items, ← c.deref.ensures.value) c.in_ok-one.ensures.firsts;
      texts = rw (c.in_ok-push.ensures.items, ← c.deref.ensures.value) c.in_ok-one.ensures.texts;
      placed = rw c.in_ok-push.ensures.items (length_push c.loop-sink.decoders.items c.in_ok-one.one ∙ ap (λ n. n + 1) c.loop-sink.invariant.placed);
    }

pub returns : goal.returns
returns c = each_is_done (shared_decoder_at (front_seen c.args.front.now) c.args.sinks.now) c.args.sinks.now c.loop-sink.sink-index c.loop-sink.decoders.items (left_of c.loop-sink.rest) _ c.loop-sink-test.false c.loop-sink.invariant.so_far
