use Rattle.std.proofs.Common.{length}
use Rattle.link_chains.specs.Chains.{AreFirsts, AreNexts, end_of}
use Rattle.link_chains.proofs.chains.chains_of.Given as goal

-- the chains of the links from this one on
abbrev pub invariant-loop-link : goal.invariant-loop-link
invariant-loop-link l = AreFirsts (end_of l.net.links l.end) (length l.net.links) (length l.net.nodes) l.link l.firsts.items
    × AreNexts (end_of l.net.links l.end) (length l.net.links) l.link l.nexts.items
