use Rattle.std.proofs.Common.{◌≡◌, ◌+◌, [], ◌∷◌, ◌++◌, Ok, ap, ◌∙◌}
use Rattle.std.proofs.lemmas.Result.{err_from_is_err_and}
use Rattle.std.proofs.lemmas.List.{map_push, length_push}
use Rattle.code_items.specs.Reading.{pattern_at}
use Rattle.code_items.specs.Gives.{Fails, left_of}
use Rattle.code_items.proofs.Loop.{goes_on, ends, is_done}
use Rattle.code_items.proofs.patterns.named_patterns.Goals as goal

pub returns-in_err-one-clause-gives : goal.returns-in_err-one-clause-gives
returns-in_err-one-clause-gives c =
    let p = err_from_is_err_and c.from_residual-in_err-one.result c.from_residual-in_err-one.ensures.1 in
    let fails : Fails c.in_err-one.field-0.0 ((pattern_at c.args.links) c.loop.patterns.items (left_of c.loop.rest)) = c.in_err-one.ensures.gives c.loop.patterns.items c.loop.invariant.names in
    rw (p.1, p.2) (ends (pattern_at c.args.links) c.args.count c.loop.counter c.loop.patterns.items (left_of c.loop.rest) _ c.in_err-one.field-0.0 c.loop-test.true fails c.loop.invariant.so_far)

pub loop-preserved : goal.loop-preserved
loop-preserved c =
    let read : (pattern_at c.args.links) c.loop.patterns.items (left_of c.loop.rest) ≡ Ok (c.in_ok-one.one, left_of c.in_ok-one.after) = c.in_ok-one.ensures.gives c.loop.patterns.items c.loop.invariant.names in
    record {
      so_far = rw c.in_ok-push-2.ensures.items (goes_on (pattern_at c.args.links) c.args.count c.loop.counter c.loop.patterns.items (left_of c.loop.rest) _ c.in_ok-one.one (left_of c.in_ok-one.after) c.loop-test.true read c.loop.invariant.so_far);
      names = rw (c.in_ok-push-2.ensures.items, map_push (λ pattern. pattern.name) c.loop.patterns.items c.in_ok-one.one) (c.in_ok-one.ensures.named ∙ ap (λ names. names ++ c.in_ok-one.one.name ∷ []) c.loop.invariant.names);
      placed = rw c.in_ok-push-2.ensures.items (length_push c.loop.patterns.items c.in_ok-one.one ∙ ap (λ n. n + 1) c.loop.invariant.placed);
    }

pub returns-clause-gives : goal.returns-clause-gives
returns-clause-gives c = is_done (pattern_at c.args.links) c.args.count c.loop.counter c.loop.patterns.items (left_of c.loop.rest) _ c.loop-test.false c.loop.invariant.so_far
