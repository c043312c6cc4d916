-- The blocks are fed one after another.
use Rattle.std.proofs.Common.{◌≡◌, ◌+◌, ◌-◌, ◌*◌, ℕ, arith, drop, subst, take}
use Rattle.relay_node.specs.Relay.{IsFed}
use Rattle.node_stations.proofs.FeedingLaws.{AreFedTo, are_fed, fed_more, fed_none}
use Rattle.node_stations.proofs.feeding.feed_blocks.Goals as goal

pub feeding-init : goal.feeding-init
feeding-init g c = fed_none c.args.first c.args.size c.args.blocks.now c.args.source.now c.requires.first c.requires.nothing

-- one more block was fed
pub feeding-preserved : goal.feeding-preserved
feeding-preserved g c =
    let start = c.feeding.place * c.args.size in
    let whole : start + c.args.size - start ≡ c.args.size = omega arith in
    let Feeds = λ (n : ℕ). IsFed (c.args.first + c.feeding.place) (take n (drop start c.args.blocks.now)) c.feeding.source c.feed.new.self in
    fed_more c.args.first c.args.size c.feeding.place c.args.blocks.now c.args.source.now c.feeding.source c.feed.new.self c.requires.first
    c.feeding.invariant (subst Feeds whole c.feed.ensures)

pub returns : goal.returns
returns g c =
    let all : c.feeding.place ≡ c.args.count = omega arith in
    let FedTo = λ (n : ℕ). AreFedTo c.args.first c.args.size n c.args.blocks.now c.args.source.now c.feeding.source in
    are_fed c.args.first c.args.count c.args.size c.args.blocks.now c.args.source.now c.feeding.source c.requires.first c.requires.count
    (subst FedTo all c.feeding.invariant)
