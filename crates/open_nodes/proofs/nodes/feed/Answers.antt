use Rattle.relay_node.proofs.CameLaws.{unfed}
use Rattle.open_nodes.proofs.ErrorLaws.{not_fed}
use Rattle.open_nodes.proofs.nodes.feed.Goals as goal

pub feed-requires-clause-unfed : goal.feed-requires-clause-unfed
feed-requires-clause-unfed g c =
    unfed c.args.node.now c.args.generation (not_fed c.args.node.now c.args.generation c.args.block.now c.in_ok-see_feed.ensures)
