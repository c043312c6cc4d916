use Rattle.std.proofs.Common.{◌≡◌, true, below_more, sym, ap, ◌∙◌, arith}
use Rattle.std.specs.Str.{bytes_eq}
use Rattle.std.proofs.lemmas.Option.{get_or_from_slice_get}
use Rattle.top_base.proofs.NamedLaws.{position_here, position_none}
use Rattle.top_base.proofs.named.link_named.Goals as goal

pub returns-then-eq : goal.returns-then-eq
returns-then-eq c =
    let same : bytes_eq c.at.result.now.name c.args.name.now ≡ true = ap (λ name. bytes_eq name c.args.name.now) (sym c.bytes.ensures.value) ∙ sym c.if-eq.ensures in
    sym (position_here (λ link. bytes_eq link.name c.args.name.now) c.args.net.now.links c.loop-link.link c.at.result.now (omega arith) c.loop-link.invariant c.at.ensures same)

pub loop-link-preserved : goal.loop-link-preserved
loop-link-preserved c = below_more _ _ c.loop-link.invariant (λ d.
    ap (λ link. bytes_eq link.name c.args.name.now) (get_or_from_slice_get c.args.net.now.links c.loop-link.link c.at.result.now d c.at.ensures)
    ∙ ap (λ name. bytes_eq name c.args.name.now) (sym c.bytes.ensures.value) ∙ sym c.if-eq.ensures)

pub returns : goal.returns
returns c = sym (position_none (λ link. bytes_eq link.name c.args.name.now) c.args.net.now.links c.loop-link.link (omega arith) c.loop-link.invariant)
