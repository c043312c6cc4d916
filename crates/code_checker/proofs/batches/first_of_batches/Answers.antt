use Rattle.std.proofs.Common.{◌∙◌}
use Rattle.code_checker.proofs.BatchSteps.{clear_all, clear_more, clear_none, failure_found}
use Rattle.code_checker.proofs.batches.first_of_batches.Goals as goal

pub loop-first-init : goal.loop-first-init
loop-first-init c =
    let from = c.into_iter-first-iterator.ensures.into_iter_gives in
    clear_none c.args.code.now c.args.batches c.args.made.items _ _ from.0 (from.1 ∙ c.requires.count)

pub loop-first-preserved : goal.loop-first-preserved
loop-first-preserved c =
    clear_more c.args.code.now c.args.batches c.args.made.items c.requires.each c.loop-first.yielded _ _ _ _ c.in-Some.first c.loop-first.invariant
    c.in-Some.ensures.steps.0 c.in-Some.ensures.steps.1 c.in_ok-failure.field-0 c.in_ok-failure.was c.in_default.is

pub returns-in-Some-2 : goal.returns-in-Some-2
returns-in-Some-2 c =
    failure_found c.args.code.now c.args.batches c.args.made.items c.requires.each c.loop-first.yielded _ _ _ _ c.in-Some.first c.loop-first.invariant
    c.in-Some.ensures.steps.0 c.in-Some.ensures.steps.1 c.in_ok-failure.field-0 c.in-Some-2.failure c.in_ok-failure.was c.in-Some-2.is

pub returns : goal.returns
returns c =
    clear_all c.args.code.now c.args.batches c.args.made.items c.loop-first.yielded _ _ c.requires.some_batches c.loop-first.invariant c.in-None.ensures.steps.0
