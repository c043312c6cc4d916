-- The links at both ends of each node.
use Rattle.std.specs.Prelude.{ℕ, List, length}
use Rattle.net_model.specs.Walks.{head_of, tail_of}
use Rattle.net_model.specs.declared.Link.{Link}
use Rattle.link_chains.specs.Chains.{AreFirsts, AreNexts}
use Rattle.link_chains.specs.declared.chains.Chains.{Chains}
use Rattle.link_chains.specs.declared.chains.LinkEnd.{LinkEnd}
use Rattle.link_chains.specs.declared.chains.LinkEnd.TheVariants.{Tail, Head}
use Rattle.link_chains.specs.declared.wiring.Wiring.{Wiring}

-- the chains of the links by one of their ends
abbrev pub chains_at : LinkEnd → Wiring → Chains
chains_at Tail wiring = wiring.from
chains_at Head wiring = wiring.into

-- the chains of the links that leave each node, and of those that lead into it
pub record IsWiring (links : List Link) (nodes : ℕ) (wiring : Wiring) : Type 0 where
  pub from_firsts : AreFirsts (tail_of links) (length links) nodes 0 wiring.from.firsts.items
  pub from_nexts : AreNexts (tail_of links) (length links) 0 wiring.from.nexts.items
  pub into_firsts : AreFirsts (head_of links) (length links) nodes 0 wiring.into.firsts.items
  pub into_nexts : AreNexts (head_of links) (length links) 0 wiring.into.nexts.items
