use Rattle.std.proofs.Common.{◌≡◌, ◌+◌, Ok, ap, ◌∙◌}
use Rattle.std.proofs.lemmas.Result.{err_from_is_err_and}
use Rattle.std.proofs.lemmas.List.{length_push}
use Rattle.code_items.specs.Reading.{link_at}
use Rattle.code_items.specs.Gives.{Fails, left_of}
use Rattle.code_items.proofs.Loop.{goes_on, ends, is_done}
use Rattle.code_items.proofs.links.noted_links.Goals as goal

pub returns-in_err-one : goal.returns-in_err-one
returns-in_err-one c =
    let p = err_from_is_err_and c.from_residual-in_err-one.result c.from_residual-in_err-one.ensures.1 in
    let fails : Fails c.in_err-one.field-0.0 ((link_at c.args.nodes) c.loop.links.items (left_of c.loop.rest)) = rw (← c.deref.ensures.value) (c.in_err-one.ensures.gives) in
    rw (p.1, p.2) (ends (link_at c.args.nodes) c.args.count c.loop.counter c.loop.links.items (left_of c.loop.rest) _ c.in_err-one.field-0.0 c.loop-test.true fails c.loop.invariant.so_far)

pub loop-preserved : goal.loop-preserved
loop-preserved c =
    let read : (link_at c.args.nodes) c.loop.links.items (left_of c.loop.rest) ≡ Ok (c.in_ok-one.one, left_of c.in_ok-one.after) = rw (← c.deref.ensures.value) (c.in_ok-one.ensures.gives) in
    record {
      so_far = rw c.in_ok-push.ensures.items (goes_on (link_at c.args.nodes) c.args.count c.loop.counter c.loop.links.items (left_of c.loop.rest) _ c.in_ok-one.one (left_of c.in_ok-one.after) c.loop-test.true read c.loop.invariant.so_far);
      names = rw (c.in_ok-push.ensures.items, ← c.deref.ensures.value) c.in_ok-one.ensures.named;
      tails = rw (c.in_ok-push.ensures.items, ← c.deref.ensures.value) c.in_ok-one.ensures.marked;
      placed = rw c.in_ok-push.ensures.items (length_push c.loop.links.items c.in_ok-one.one ∙ ap (λ n. n + 1) c.loop.invariant.placed);
    }

pub returns : goal.returns
returns c = is_done (link_at c.args.nodes) c.args.count c.loop.counter c.loop.links.items (left_of c.loop.rest) _ c.loop-test.false c.loop.invariant.so_far
