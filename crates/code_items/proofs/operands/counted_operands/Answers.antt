use Rattle.std.proofs.Common.{◌≡◌, Ok}
use Rattle.std.proofs.lemmas.Result.{err_from_is_err_and}
use Rattle.code_items.specs.Reading.{operand_at}
use Rattle.code_items.specs.Gives.{Fails, left_of}
use Rattle.code_items.specs.Parts.{front_seen}
use Rattle.code_items.proofs.Loop.{goes_on, ends, is_done}
use Rattle.code_items.proofs.operands.counted_operands.Goals as goal

pub returns-in_err-one : goal.returns-in_err-one
returns-in_err-one c =
    let p = err_from_is_err_and c.from_residual-in_err-one.result c.from_residual-in_err-one.ensures.1 in
    let fails : Fails c.in_err-one.field-0.0 ((operand_at (front_seen c.args.front.now) c.args.link.now) c.loop.operands.items (left_of c.loop.rest)) = rw (← c.deref.ensures.value) (c.in_err-one.ensures) in
    rw (p.1, p.2) (ends (operand_at (front_seen c.args.front.now) c.args.link.now) c.args.count c.loop.counter c.loop.operands.items (left_of c.loop.rest) _ c.in_err-one.field-0.0 c.loop-test.true fails c.loop.invariant)

pub loop-preserved : goal.loop-preserved
loop-preserved c =
    let read : (operand_at (front_seen c.args.front.now) c.args.link.now) c.loop.operands.items (left_of c.loop.rest) ≡ Ok (c.in_ok-one.one, left_of c.in_ok-one.after) = rw (← c.deref.ensures.value) (c.in_ok-one.ensures) in
    rw c.in_ok-push.ensures.items (goes_on (operand_at (front_seen c.args.front.now) c.args.link.now) c.args.count c.loop.counter c.loop.operands.items (left_of c.loop.rest) _ c.in_ok-one.one (left_of c.in_ok-one.after) c.loop-test.true read c.loop.invariant)

pub returns : goal.returns
returns c = is_done (operand_at (front_seen c.args.front.now) c.args.link.now) c.args.count c.loop.counter c.loop.operands.items (left_of c.loop.rest) _ c.loop-test.false c.loop.invariant
