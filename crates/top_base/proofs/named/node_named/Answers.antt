use Rattle.std.proofs.Common.{◌≡◌, true, below_more, sym, ap, ◌∙◌, arith}
use Rattle.std.specs.Str.{bytes_eq}
use Rattle.std.proofs.lemmas.Option.{get_or_from_slice_get}
use Rattle.top_base.proofs.NamedLaws.{position_here, position_none}
use Rattle.top_base.proofs.named.node_named.Goals as goal

pub returns-then-eq : goal.returns-then-eq
returns-then-eq c =
    let same : bytes_eq c.at.result.now c.args.name.now ≡ true = ap (λ name. bytes_eq name c.args.name.now) (sym c.bytes.ensures.value) ∙ sym c.if-eq.ensures in
    sym (position_here (λ node. bytes_eq node c.args.name.now) c.args.net.now.nodes c.loop-node.node c.at.result.now (omega arith) c.loop-node.invariant c.at.ensures same)

pub loop-node-preserved : goal.loop-node-preserved
loop-node-preserved c = below_more _ _ c.loop-node.invariant (λ d.
    ap (λ node. bytes_eq node c.args.name.now) (get_or_from_slice_get c.args.net.now.nodes c.loop-node.node c.at.result.now d c.at.ensures)
    ∙ ap (λ name. bytes_eq name c.args.name.now) (sym c.bytes.ensures.value) ∙ sym c.if-eq.ensures)

pub returns : goal.returns
returns c = sym (position_none (λ node. bytes_eq node c.args.name.now) c.args.net.now.nodes c.loop-node.node (omega arith) c.loop-node.invariant)
