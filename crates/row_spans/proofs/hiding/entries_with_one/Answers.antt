use Rattle.std.proofs.Common.{◌≡◌, ◌<◌, [], ap, arith, get_or, length, refl, set, slice_index, sym, ◌∙◌}
use Rattle.std.proofs.lemmas.List.{get_or-map, length-map}
use Rattle.linear_algebra.proofs.MatrixLaws.{length-column}
use Rattle.linear_algebra.specs.Elements.{elements_of}
use Rattle.linear_algebra.specs.Matrices.{column}
use Rattle.field_rows.proofs.ElementLaws.{elements_of-zeros, get_or-rows_in, room_in}
use Rattle.row_spans.proofs.HiddenSteps.{entries_all, entries_more, entries_none, first_entries}
use Rattle.field_rows.specs.Widths.{rows_in, width_in}
use Rattle.row_spans.proofs.hiding.entries_with_one.Goals as goal

pub loop-at-init : goal.loop-at-init
loop-at-init g c =
    let field = c.args.field in
    elements_of-zeros field 64 refl ∙ entries_none (width_in field 64) (column c.args.place (rows_in field c.args.rows.now))

pub loop-at-preserved : goal.loop-at-preserved
loop-at-preserved g c =
    let field = c.args.field in
    let rows = rows_in field c.args.rows.now in
    let entries = column c.args.place rows in
    let k = c.loop-at.at in
    let long : length rows ≡ length c.args.rows.now = length-map c.args.rows.now (elements_of field) in
    let within : k < length rows = omega (arith, long, c.loop-at-test.true) in
    let inside : k < length entries = omega (arith, within, length-column c.args.place rows) in
    let room = room_in field 64 (length c.args.rows.now) (omega arith) c.requires.few in
    let from = c.index-rows-at.result in
    let named : get_or rows k [] ≡ elements_of field from = get_or-rows_in field c.args.rows.now k from c.loop-at-test.true c.index-rows-at.is in
    let entry : c.element_at-entry.result ≡ get_or entries k 0 =
    c.element_at-entry.ensures.value ∙ sym (get_or-map (λ row. slice_index row c.args.place) rows k [] 0 within ∙ ap (λ row. slice_index row c.args.place) named) in
    c.put_element.ensures
    ∙ ap (λ xs. set xs k c.element_at-entry.result) c.loop-at.invariant
    ∙ entries_more (width_in field 64) entries k c.element_at-entry.result inside (omega (arith, room, c.loop-at-test.true)) entry

pub returns : goal.returns
returns g c =
    let field = c.args.field in
    let rows = rows_in field c.args.rows.now in
    let entries = column c.args.place rows in
    let count = length c.args.rows.now in
    let long : length entries ≡ count = length-column c.args.place rows ∙ length-map c.args.rows.now (elements_of field) in
    let all : c.loop-at.at ≡ count = omega (arith, c.loop-at-test.false, c.loop-at.auto.at-end) in
    c.put_element-2.ensures
    ∙ ap (λ xs. set xs c.args.place 1) (c.loop-at.invariant ∙ ap (first_entries (width_in field 64) entries) all)
    ∙ entries_all (width_in field 64) entries count c.args.place 1 long c.requires.place
