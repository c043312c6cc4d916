use Rattle.std.proofs.Common.{◌≡◌, ℕ, ◌+◌, List, ◌++◌, length, drop, take, Ok, ap, ◌∙◌, arith}
use Rattle.std.proofs.lemmas.Result.{err_from_is_err_and}
use Rattle.std.proofs.lemmas.List.{length_push}
use Rattle.item_list.proofs.Writes.{written_back}
use Rattle.code_items.specs.Reading.{Rest, Reading, sink_at}
use Rattle.code_items.specs.Gives.{Fails, left_of}
use Rattle.code_items.proofs.Loop.{goes_on, ends, is_done}
use Rattle.code_items.proofs.nodes.counted_sinks.Goals as goal

pub returns-in_err-one-clause-gives : goal.returns-in_err-one-clause-gives
returns-in_err-one-clause-gives c =
    let part : List (ℕ) → Rest → Reading (ℕ) = sink_at c.args.nodes c.args.source in
    let p = err_from_is_err_and c.from_residual-in_err-one.result c.from_residual-in_err-one.ensures.1 in
    let fails : Fails c.in_err-one.field-0.0 (part c.loop.sinks.items (left_of c.loop.rest)) = rw (← c.deref.ensures.value) (c.in_err-one.ensures.gives) in
    rw (p.1, p.2) (ends part c.args.count c.loop.counter c.loop.sinks.items (left_of c.loop.rest) _ c.in_err-one.field-0.0 c.loop-test.true fails c.loop.invariant.so_far)

pub loop-preserved : goal.loop-preserved
loop-preserved c =
    let part : List (ℕ) → Rest → Reading (ℕ) = sink_at c.args.nodes c.args.source in
    let read : part c.loop.sinks.items (left_of c.loop.rest) ≡ Ok (c.in_ok-one.one, left_of c.in_ok-one.after) = rw (← c.deref.ensures.value) (c.in_ok-one.ensures.gives) in
    let kept : take c.loop.marks.len (c.sink.new.marks ++ drop (length c.sink.new.marks) c.loop.marks.items) ≡ c.sink.new.marks =
    written_back _ _ _ (omega (arith, c.loop.marks.ok.0)) (omega (arith, c.in_ok-one.ensures.marked.size, c.loop.invariant.marks.size)) in
    record {
      so_far = rw c.in_ok-push.ensures.items (goes_on part c.args.count c.loop.counter c.loop.sinks.items (left_of c.loop.rest) _ c.in_ok-one.one (left_of c.in_ok-one.after) c.loop-test.true read c.loop.invariant.so_far);
      marks = rw (c.in_ok-push.ensures.items, kept, ← c.deref.ensures.value) c.in_ok-one.ensures.marked;
      placed = rw c.in_ok-push.ensures.items (length_push c.loop.sinks.items c.in_ok-one.one ∙ ap (λ n. n + 1) c.loop.invariant.placed);
    }

pub returns-clause-gives : goal.returns-clause-gives
returns-clause-gives c =
    let part : List (ℕ) → Rest → Reading (ℕ) = sink_at c.args.nodes c.args.source in
    is_done part c.args.count c.loop.counter c.loop.sinks.items (left_of c.loop.rest) _ c.loop-test.false c.loop.invariant.so_far
