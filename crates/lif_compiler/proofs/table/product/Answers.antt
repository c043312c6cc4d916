use Rattle.std.proofs.Common.{ap, sym, ◌∙◌}
use Rattle.lif_compiler.proofs.CountLaws.{product_made, product_read}
use Rattle.lif_compiler.proofs.TableSteps.{link_product, unit_product}
use Rattle.lif_compiler.proofs.table.product.Goals as goal

pub returns-then-leaves-clause-value : goal.returns-then-leaves-clause-value
returns-then-leaves-clause-value g c = λ kind of_kind.
    let L = g.met.F.Field in
    ap g.F.Field.number c.at.ensures.value
    ∙ unit_product L.field L.numbering kind of_kind c.args.leaves c.args.vectors.now.columns c.args.vectors.now c.args.inverses.now c.args.path c.args.from
    c.if-leaves.true c.at.ensures.kept c.requires.path c.requires.width (c.requires.row c.if-leaves.true)

pub returns-else-leaves-clause-value : goal.returns-else-leaves-clause-value
returns-else-leaves-clause-value g c = λ kind of_kind.
    let L = g.met.F.Field in
    ap g.F.Field.number c.dot.ensures.value
    ∙ link_product L.field L.numbering kind of_kind c.args.leaves c.args.vectors.now.columns c.args.vectors.now c.args.inverses.now c.args.path c.args.from
    c.row.result.now c.row-else-leaves.result.now c.if-leaves.false c.row.ensures.elements c.row-else-leaves.ensures.elements c.row.ensures.value c.row-else-leaves.ensures.value

pub returns-then-leaves-clause-ticks : goal.returns-then-leaves-clause-ticks
returns-then-leaves-clause-ticks g c = product_read c.args.leaves c.args.inverses.now.columns c.args.steps.now c.if-leaves.true

pub returns-else-leaves-clause-ticks : goal.returns-else-leaves-clause-ticks
returns-else-leaves-clause-ticks g c =
    product_made c.args.leaves _ c.args.inverses.now.columns c.args.steps.now c.dot.new.steps c.if-leaves.false (c.row.ensures.width ∙ sym c.requires.width) c.dot.ensures.ticks
