use Rattle.std.proofs.Common.{◌≡◌, [], ap, arith, get_or, length, sym, ◌∙◌}
use Rattle.std.proofs.lemmas.List.{length-map}
use Rattle.linear_algebra.specs.Elements.{elements_of}
use Rattle.linear_algebra.specs.Rows.{add_rows, scale_row}
use Rattle.row_spans.proofs.ClearSteps.{cleared_before, cleared_more, cleared_none, cleared_skip, cleared_whole}
use Rattle.field_rows.proofs.ElementLaws.{IsRow-elements_in, get_or-rows_in}
use Rattle.field_rows.specs.Widths.{rows_in, width_in}
use Rattle.row_spans.proofs.reducing.cleared.Goals as goal
use Rattle.row_spans.proofs.reducing.cleared.Goals.{then-marks-place, else-marks-place}

pub loop-place-init : goal.loop-place-init
loop-place-init g c =
    let field = c.args.field in
    let row = c.args.row.now in
    let is = IsRow-elements_in field g.row.W row c.requires.even c.requires.length (λ i. omega (arith, c.type_inv.row i)) in
    record {
      row = is;
      left = ap (elements_of field) c.copy_from_slice.ensures.after
          ∙ cleared_none field (width_in field g.row.W) (length c.args.marks.now) (rows_in field c.args.rows.now) (elements_of field row) is.width;
    }

pub loop-place-preserved : goal.loop-place-preserved
loop-place-preserved g c =
    let field = c.args.field in
    let width = width_in field g.row.W in
    let rate = length c.args.marks.now in
    let rows = rows_in field c.args.rows.now in
    let row = elements_of field c.args.row.now in
    let k = c.loop-place.place in
    let h = c.loop-place.invariant in
    let long : length c.args.rows.now ≡ rate = sym (length-map c.args.rows.now (elements_of field)) ∙ c.requires.reduced.count in
    record {
      row = h.row;
      left = elim c.if-marks-place.branch [
        | then-marks-place w ↦
            let from = w.index-rows-place.result in
            let named : get_or rows k [] ≡ elements_of field from = get_or-rows_in field c.args.rows.now k from (omega (arith, long, c.loop-place-test.true)) w.index-rows-place.is in
            ap (elements_of field) w.left-is ∙ w.add_scaled.ensures.sum
            ∙ ap (λ xs. add_rows xs (scale_row field w.element_at-by.result (elements_of field from))) h.left
            ∙ ap (λ x. add_rows (cleared_before field width rate rows row k) (scale_row field x (elements_of field from))) w.element_at-by.ensures.value
            ∙ ap (λ xs. add_rows (cleared_before field width rate rows row k) (scale_row field (get_or row k 0) xs)) (sym named)
            ∙ cleared_more field width rate c.args.marks.now rows c.requires.reduced row h.row k c.loop-place-test.true
        | else-marks-place w ↦
            ap (elements_of field) w.left-is ∙ h.left
            ∙ cleared_skip field width rate c.args.marks.now rows c.requires.reduced row h.row k c.loop-place-test.true w.if-marks-place.false
      ];
    }

pub returns-clause-value : goal.returns-clause-value
returns-clause-value g c =
    let field = c.args.field in
    let h = c.loop-place.invariant in
    h.left
    ∙ cleared_whole field (width_in field g.row.W) (length c.args.marks.now) c.args.marks.now (rows_in field c.args.rows.now) c.requires.reduced (elements_of field c.args.row.now) h.row
    c.loop-place.place (omega (arith, c.loop-place-test.false))
