use Rattle.std.proofs.lemmas.Result.{err_from_is_err_and}
use Rattle.code_items.specs.Reading.{operands_at_link}
use Rattle.code_items.specs.Gives.{left_of}
use Rattle.code_items.specs.Parts.{front_seen}
use Rattle.code_items.proofs.Loop.{each_goes_on, each_ends, each_is_done}
use Rattle.code_items.proofs.operands.read_operand_table.Goals as goal

pub returns-in_err-one : goal.returns-in_err-one
returns-in_err-one c =
    let p = err_from_is_err_and c.from_residual-in_err-one.result c.from_residual-in_err-one.ensures.1 in
    rw (p.1, p.2) (each_ends (λ _. operands_at_link (front_seen c.args.front.now)) c.as_slice-links.result.now c.loop-link.link-index c.loop-link.table.items (left_of c.loop-link.rest) _ c.link-item.result c.in_err-one.field-0.0 c.loop-link-test.true (rw (← c.link-item.is) c.in_err-one.ensures) c.loop-link.invariant)

pub loop-link-preserved : goal.loop-link-preserved
loop-link-preserved c =
    rw c.in_ok-push.ensures.items (each_goes_on (λ _. operands_at_link (front_seen c.args.front.now)) c.as_slice-links.result.now c.loop-link.link-index c.loop-link.table.items (left_of c.loop-link.rest) _ c.link-item.result c.in_ok-one.one (left_of c.in_ok-one.after) c.loop-link-test.true (rw (← c.link-item.is) c.in_ok-one.ensures) c.loop-link.invariant)

pub returns : goal.returns
returns c = each_is_done (λ _. operands_at_link (front_seen c.args.front.now)) c.as_slice-links.result.now c.loop-link.link-index c.loop-link.table.items (left_of c.loop-link.rest) _ c.loop-link-test.false c.loop-link.invariant
