use Rattle.std.proofs.Common.{◌≡◌, ◌-◌, ◌∙◌, ap, arith, get_or, refl, set}
use Rattle.field_rows.proofs.ElementLaws.{elements_of-zeros}
use Rattle.linear_algebra.specs.Rows.{zero_row}
use Rattle.link_rows.specs.Vectors.{wide_width}
use Rattle.two_sources.proofs.DecoderSteps.{widened-all, widened-more}
use Rattle.two_sources.proofs.decoders.row_of.Goals as goal

pub loop-place-init : goal.loop-place-init
loop-place-init c =
    let whole : wide_width c.args.field ≡ wide_width c.args.field - 0 = omega arith in
    elements_of-zeros c.args.field 64 refl ∙ ap zero_row whole

pub loop-place-preserved : goal.loop-place-preserved
loop-place-preserved c =
    let field = c.args.field in
    let place = c.loop-place.place in
    c.put_element.ensures
    ∙ ap (λ row. set row place (get_or c.args.elements.now place 0)) c.loop-place.invariant
    ∙ widened-more field c.args.elements.now place c.requires.count (omega arith)

pub returns : goal.returns
returns c = c.loop-place.invariant ∙ widened-all c.args.field c.args.elements.now c.loop-place.place (omega arith)
