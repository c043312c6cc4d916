use Rattle.std.proofs.Common.{◌==◌, below_more, sym, ap, ◌∙◌, arith}
use Rattle.std.proofs.lemmas.Bool.{eq-eqb, ne_eqb}
use Rattle.std.proofs.lemmas.Option.{get_or_from_slice_get}
use Rattle.failure_patterns.proofs.DemandLaws.{few_sinks}
use Rattle.top_base.proofs.NamedLaws.{position_here, position_none}
use Rattle.top_base.proofs.named.place_among.Goals as goal

pub returns-then-at-node : goal.returns-then-at-node
returns-then-at-node c = sym (position_here (λ sink. sink == c.args.node) c.args.net.now.sinks c.loop-place.place c.at.result.now (omega arith) c.loop-place.invariant c.at.ensures (eq-eqb c.at.result.now c.args.node c.if-at-node.true))

pub loop-place-preserved : goal.loop-place-preserved
loop-place-preserved c = below_more _ _ c.loop-place.invariant (λ d.
    ap (λ sink. sink == c.args.node) (get_or_from_slice_get c.args.net.now.sinks c.loop-place.place c.at.result.now d c.at.ensures) ∙ ne_eqb c.at.result.now c.args.node c.if-at-node.false)

pub returns : goal.returns
returns c = sym (position_none (λ sink. sink == c.args.node) c.args.net.now.sinks c.loop-place.place (omega arith) c.loop-place.invariant)

pub overflow_cast-result : goal.overflow_cast-result
overflow_cast-result c = omega (arith, few_sinks c.args.net.now, c.args.net.now.network.few_nodes)
