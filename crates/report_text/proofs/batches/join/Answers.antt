use Rattle.std.proofs.Common.{◌∙◌}
use Rattle.report_text.proofs.JoinSteps.{joined_all, joined_more, joined_none}
use Rattle.report_text.proofs.batches.join.Goals as goal

pub loop-lines-init : goal.loop-lines-init
loop-lines-init c =
    let from = c.into_iter-lines-iterator.ensures.into_iter_gives in
    joined_none c.args.text.items c.args.batches.items _ _ from.0 (from.1 ∙ c.args.batches.ok.0)

pub loop-lines-preserved : goal.loop-lines-preserved
loop-lines-preserved c =
    joined_more c.args.text.items c.args.batches.items c.loop-lines.yielded _ _ _ _ c.in-Some.lines c.in_ok-lines.field-0 c.loop-lines.whole.items c.append.new.self.items c.loop-lines.invariant
    c.in-Some.ensures.steps.0 c.in-Some.ensures.steps.1 c.in_ok-lines.was c.in_ok-append.ensures.items

pub returns : goal.returns
returns c = joined_all c.args.text.items c.args.batches.items c.loop-lines.yielded _ _ c.loop-lines.whole.items c.loop-lines.invariant c.in-None.ensures.steps.0
