use Rattle.std.proofs.Common.{◌≡◌, ◌<◌, ◌+◌, ◌-◌, ℕ, length, arith, subst}
use Rattle.link_chains.specs.Chains.{AreFirsts, AreNexts, end_of}
use Rattle.link_chains.proofs.ChainSteps.{firsts_more, nexts_more}
use Rattle.link_chains.proofs.chains.chains_of.Goals as goal

pub loop-link-preserved : goal.loop-link-preserved
loop-link-preserved c =
    let net = c.args.net.now in
    let end : ℕ → ℕ = end_of net.links c.args.end in
    let low = c.loop-link.link - 1 in
    let next : c.loop-link.link ≡ low + 1 = omega (arith, c.loop-link-test.true) in
    let within : low < length net.links = omega (arith, c.loop-link-test.true, c.loop-link.auto.link, c.len-count.ensures) in
    let Firsts : ℕ → Type 0 = λ n. AreFirsts end (length net.links) (length net.nodes) n c.loop-link.firsts.items in
    let Nexts : ℕ → Type 0 = λ n. AreNexts end (length net.links) n c.loop-link.nexts.items in
    let firsts : Firsts (low + 1) = subst Firsts next c.loop-link.invariant.0 in
    let nexts : Nexts (low + 1) = subst Nexts next c.loop-link.invariant.1 in (
      firsts_more end (length net.links) (length net.nodes) low c.end_of-node.result c.loop-link.firsts.items c.end_of-node.ensures.value c.end_of-node.ensures.below within firsts,
      nexts_more end (length net.links) (length net.nodes) low c.end_of-node.result c.index.result.now c.loop-link.firsts.items c.loop-link.nexts.items c.end_of-node.ensures.value
          c.end_of-node.ensures.below within firsts c.index.ensures nexts,
    )
