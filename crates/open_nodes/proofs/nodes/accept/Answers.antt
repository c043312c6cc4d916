use Rattle.net_model.proofs.RisingLaws.{Contains-from_is_among}
use Rattle.net_model.specs.Lists.{is_among}
use Rattle.relay_node.specs.Relay.{is_begun}
use Rattle.open_nodes.proofs.ErrorLaws.{taken}
use Rattle.open_nodes.proofs.nodes.accept.Goals as goal

pub accept-requires-clause-link : goal.accept-requires-clause-link
accept-requires-clause-link g c =
    let node = c.args.node.now in
    let packet = c.in_ok-packet.packet in
    Contains-from_is_among node.plan.ins packet.link (taken (is_among node.plan.ins) (is_begun node) packet c.in_ok-see_packet.ensures)
