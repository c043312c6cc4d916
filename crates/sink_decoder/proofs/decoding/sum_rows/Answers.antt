use Rattle.std.proofs.Common.{ℕ, List, ◌≡◌, ◌<◌, ◌≤◌, ◌+◌, ap, ◌∙◌, sym, subst, arith, length, take}
use Rattle.std.proofs.lemmas.List.{take_all}
use Rattle.std.proofs.lemmas.List.FromFn.{length-map-range_with_len}
use Rattle.linear_algebra.specs.Elements.{elements_of}
use Rattle.linear_algebra.specs.Rows.{combination}
use Rattle.generation_frame.specs.Blocks.{row_bytes}
use Rattle.coded_traffic.proofs.RowLaws.{elements_of-zeros}
use Rattle.coded_traffic.specs.CodeBlocks.{row_width}
use Rattle.sink_decoder.proofs.SumLaws.{sum_before, sum_before-dead, sum_before-live}
use Rattle.sink_decoder.specs.Sums.{value_held, values_held}
use Rattle.sink_decoder.proofs.decoding.sum_rows.Goals as goal
use Rattle.sink_decoder.proofs.decoding.sum_rows.Goals.{then-is_live, else-is_live}

pub loop-place-init : goal.loop-place-init
loop-place-init c = ap (elements_of c.args.field) (c.fill.ensures.after (λ y is. is)) ∙ elements_of-zeros c.args.field _ c.requires.width

pub loop-place-preserved : goal.loop-place-preserved
loop-place-preserved c =
    let field = c.args.field in
    let coefficients = c.args.coefficients.now in
    let live = c.args.live.now in
    let held = c.args.held.now in
    let place = c.loop-place.place in
    let within : place < length live = c.loop-place-test.true in
    let below : place < length coefficients = omega (arith, within, c.requires.count) in
    let width : length c.loop-place.into ≡ row_bytes = c.loop-place.auto.into ∙ c.fill.ensures.len ∙ c.requires.width in
    let so_far = c.loop-place.invariant in
    let Sum : List ℕ → Type 0 = λ into. elements_of field into ≡ sum_before field coefficients live held (place + 1) in
    elim c.if-is_live.branch [
      | then-is_live w ↦
          subst Sum (sym w.into-is)
          (sum_before-live field coefficients live held place below within w.row.result.now c.loop-place.into w.add_scaled.new.into
          w.if-is_live.true w.row.ensures.value w.row.ensures.length w.add_scaled.ensures.sum so_far)
      | else-is_live w ↦
          subst Sum (sym w.into-is)
          (sum_before-dead field coefficients live held place below within c.loop-place.into
          w.if-is_live.false (c.requires.elements place 0 below) width so_far)
    ]

pub returns-clause-sum : goal.returns-clause-sum
returns-clause-sum c =
    let field = c.args.field in
    let coefficients = c.args.coefficients.now in
    let live = c.args.live.now in
    let values = values_held field live c.args.held.now in
    let place = c.loop-place.place in
    let past : length live ≤ place = c.loop-place-test.false in
    let count : length values ≡ length live = length-map-range_with_len (value_held field live c.args.held.now) 0 (length live) in
    c.loop-place.invariant
    ∙ ap (λ (chosen : List ℕ). combination field (row_width field) chosen (take place values)) (take_all place coefficients (omega (arith, past, c.requires.count)))
    ∙ ap (combination field (row_width field) coefficients) (take_all place values (omega (arith, past, count)))
