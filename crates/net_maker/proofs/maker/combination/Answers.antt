use Rattle.net_maker.proofs.NetworkLaws.{network-from}
use Rattle.net_maker.proofs.maker.combination.Goals as goal

pub of-requires : goal.of-requires
of-requires c =
    network-from c.args.n c.args.k _ c.in_ok-nodes.nodes c.in_ok-links.links c.in_ok-sinks.sinks c.in_ok-patterns.patterns c.requires c.binomial-count.ensures.value c.in_ok-nodes.ensures c.in_ok-links.ensures c.in_ok-sinks.ensures c.in_ok-patterns.ensures
