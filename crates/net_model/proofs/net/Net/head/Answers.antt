use Rattle.std.proofs.Common.{◌<◌, length}
use Rattle.net_model.specs.Walks.{head_of}
use Rattle.net_model.proofs.EndLaws.{ends_below}
use Rattle.net_model.proofs.net.Net.head.Goals as goal

pub returns-clause-below : goal.returns-clause-below
returns-clause-below c =
    let net = c.args.self.now in
    let below : head_of net.links c.args.link < length net.nodes = (ends_below net.links (length net.nodes) c.args.link net.network.link_ends c.requires).1 in
    rw c.at.ensures at below
