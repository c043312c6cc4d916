use Rattle.std.proofs.Common.{◌∙◌}
use Rattle.cut_witness.proofs.BatchSteps.{all_joined, joined_more, joined_none}
use Rattle.cut_witness.proofs.batches.join_batches.Goals as goal

pub loop-batch-init : goal.loop-batch-init
loop-batch-init c =
    let from = c.into_iter-batch-iterator.ensures.into_iter_gives in
    joined_none c.args.net.now c.args.batches c.args.made.items _ _ c.in_ok-certs.certs.items from.0 (from.1 ∙ c.requires.count) c.in_ok-certs.ensures.items

pub loop-batch-preserved : goal.loop-batch-preserved
loop-batch-preserved c =
    joined_more c.args.net.now c.args.batches c.args.made.items c.loop-batch.yielded _ _ _ _ c.in-Some.batch c.in_ok-batch.field-0 c.loop-batch.certs.items c.append.new.self.items c.loop-batch.invariant
    c.requires.each c.in-Some.ensures.steps.0 c.in-Some.ensures.steps.1 c.in_ok-batch.was c.in_ok-append.ensures.items

pub returns : goal.returns
returns c =
    all_joined c.args.net.now c.args.batches c.args.made.items c.loop-batch.yielded _ _ c.loop-batch.certs.items c.requires.some_batches c.loop-batch.invariant c.in-None.ensures.steps.0
