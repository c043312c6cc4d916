use Rattle.sink_decoder.proofs.OpeningLaws.{live_among-more}
use Rattle.sink_decoder.proofs.opening.live_among.Goals as goal

pub loop-link-preserved : goal.loop-link-preserved
loop-link-preserved c =
    live_among-more c.args.live.now c.args.links.now c.loop-link.among.items c.push.new.self.items c.loop-link.link-index c.at.result.now
    c.loop-link-test.true c.at.ensures c.loop-link.invariant c.in_ok-push.ensures.items
