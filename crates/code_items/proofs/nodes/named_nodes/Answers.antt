use Rattle.std.proofs.Common.{◌≡◌, ℕ, List, [], ◌∷◌, ◌++◌, Ok, ap, ◌∙◌}
use Rattle.std.proofs.lemmas.Result.{err_from_is_err_and}
use Rattle.code_items.specs.Reading.{Rest, Reading, other_name_at}
use Rattle.code_items.specs.Gives.{Fails, left_of}
use Rattle.code_items.proofs.Loop.{goes_on, ends, is_done}
use Rattle.code_items.proofs.nodes.named_nodes.Goals as goal

pub returns-in_err-node : goal.returns-in_err-node
returns-in_err-node c =
    let part : List (List ℕ) → Rest → Reading (List ℕ) = other_name_at in
    let p = err_from_is_err_and c.from_residual-in_err-node.result c.from_residual-in_err-node.ensures.1 in
    let fails : Fails c.in_err-node.field-0.0 (part c.loop.nodes.items (left_of c.loop.rest)) = rw (← c.loop.invariant.names) (c.in_err-node.ensures.gives) in
    rw (p.1, p.2) (ends part c.args.count c.loop.counter c.loop.nodes.items (left_of c.loop.rest) _ c.in_err-node.field-0.0 c.loop-test.true fails c.loop.invariant.so_far)

pub loop-preserved : goal.loop-preserved
loop-preserved c =
    let part : List (List ℕ) → Rest → Reading (List ℕ) = other_name_at in
    let read : part c.loop.nodes.items (left_of c.loop.rest) ≡ Ok (c.in_ok-node.node, left_of c.in_ok-node.after) = rw (← c.loop.invariant.names) (c.in_ok-node.ensures.gives) in
    record {
      so_far = rw c.in_ok-push.ensures.items (goes_on part c.args.count c.loop.counter c.loop.nodes.items (left_of c.loop.rest) _ c.in_ok-node.node (left_of c.in_ok-node.after) c.loop-test.true read c.loop.invariant.so_far);
      names = rw c.in_ok-push.ensures.items (c.in_ok-node.ensures.kept ∙ ap (λ names. names ++ c.in_ok-node.node ∷ []) c.loop.invariant.names);
    }

pub returns : goal.returns
returns c =
    let part : List (List ℕ) → Rest → Reading (List ℕ) = other_name_at in
    is_done part c.args.count c.loop.counter c.loop.nodes.items (left_of c.loop.rest) _ c.loop-test.false c.loop.invariant.so_far
