-- The chains at both ends of each node, by the end.
use Rattle.std.specs.Prelude.{ℕ, List, length}
use Rattle.net_model.specs.declared.Link.{Link}
use Rattle.link_chains.specs.Chains.{AreNexts, end_of}
use Rattle.link_chains.specs.Wiring.{IsWiring, chains_at}
use Rattle.link_chains.specs.declared.chains.LinkEnd.{LinkEnd}
use Rattle.link_chains.specs.declared.chains.LinkEnd.TheVariants.{Tail, Head}
use Rattle.link_chains.specs.declared.wiring.Wiring.{Wiring}

-- the next links by either end
pub AreNexts-wiring : (links : List Link) (nodes : ℕ) (wiring : Wiring) (end : LinkEnd) → IsWiring links nodes wiring → AreNexts (end_of links end) (length links) 0 (chains_at end wiring).nexts.items
AreNexts-wiring links nodes wiring Tail is = is.from_nexts
AreNexts-wiring links nodes wiring Head is = is.into_nexts
