use Rattle.std.proofs.Common.{◌≡◌, ◌<◌, length, arith, ap, ◌∙◌, rules}
use Rattle.std.proofs.Math.Path.{ap₂}
use Rattle.std.proofs.lemmas.List.{get_or_default}
use Rattle.coeff_choice.specs.Choosing.{forbidden_at}
use Rattle.coeff_choice.proofs.ChoosingLaws.{marked-more, marked-past}
use Rattle.coeff_choice.proofs.choosing.mark_forbidden.Goals as goal
use Rattle.coeff_choice.proofs.choosing.mark_forbidden.Goals.{then-number-marks, else-number-marks}

pub loop-row-preserved : goal.loop-row-preserved
loop-row-preserved g c =
    let F = g.F.Field in
    let table = c.args.table.now in
    let products = c.args.products.now in
    let row = c.loop-row.row in
    let marks = c.loop-row.marks in
    let h = c.loop-row.invariant.marked in
    let inside : row < length products = omega arith in
    let read = c.index-products-row.is ∙ get_or_default products row c.index-products-row.result F.zero inside in
    let is : c.number-number.result ≡ F.number (forbidden_at F.zero F.mul F.inv table c.args.place products row) =
    c.number-number.ensures.value
    ∙ ap F.number (c.mul-forbidden.ensures.value ∙ ap₂ F.mul c.at.ensures.value (c.inv-inverse.ensures.value ∙ ap F.inv read))
    in
    record {
      marked =
          elim c.if-number-marks.branch [
            | then-number-marks w ↦
                rw w.marks-is (marked-more F.zero F.mul F.inv F.number table c.args.place products row c.number-number.result marks h is)
            | else-number-marks w ↦
                rw w.marks-is (marked-past F.zero F.mul F.inv F.number table c.args.place products row c.number-number.result marks h is (omega arith))
          ];
      ticks = search rules;
    }
