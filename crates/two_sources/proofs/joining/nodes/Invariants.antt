use Rattle.std.proofs.Common.{◌≡◌, take}
use Rattle.two_sources.proofs.joining.nodes.Given as goal

-- the names so far
abbrev pub invariant-loop-node : goal.invariant-loop-node
invariant-loop-node l = l.nodes.items ≡ take l.node-index l.net.nodes
