use Rattle.net_model.proofs.RenumberedParts.{IsNetwork-renumbered}
use Rattle.net_model.proofs.renumbering.renumbered.Goals as goal

pub of-requires : goal.of-requires
of-requires c =
    let net = c.args.net.now in
    rw (c.in_ok-nodes.ensures, c.as_slice.ensures, c.in_ok-links.ensures, c.as_slice-2.ensures, c.of-sinks.ensures, c.in_ok-from_slice.ensures.items, c.as_slice-3.ensures, c.in_ok-patterns.ensures, c.as_slice-4.ensures)
    (IsNetwork-renumbered net.nodes net.links net.source net.sinks net.patterns c.args.order.now net.network c.requires)
