use Rattle.net_maker.proofs.SubsetLaws.{range-more}
use Rattle.net_maker.proofs.maker.numbers.Goals as goal

pub loop-before-preserved : goal.loop-before-preserved
loop-before-preserved c =
    let more = range-more c.args.first c.loop-before.before in
    cc (more, c.in_ok-push.ensures.items, c.loop-before.invariant)
