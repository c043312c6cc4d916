use Rattle.std.proofs.Common.{◌≡◌, ◌<◌, ◌∙◌, Bool, ℕ, List, [], ap, arith, get_or, if◌then◌else◌, length, map, refl, slice_index_or, sym}
use Rattle.std.proofs.lemmas.List.{get_or-map, length-map}
use Rattle.linear_algebra.specs.Elements.{elements_of}
use Rattle.node_program.specs.declared.Operand.{Operand}
use Rattle.field_rows.proofs.ElementLaws.{length-elements_in}
use Rattle.link_rows.proofs.SumSteps.{sum_more}
use Rattle.link_rows.specs.LinkRows.{row_read}
use Rattle.link_rows.specs.Vectors.{wide_width}
use Rattle.two_sources.proofs.decoders.carried.Goals as goal

pub loop-operand-preserved : goal.loop-operand-preserved
loop-operand-preserved c =
    let code = c.args.code.now in
    let field = code.field in
    let width = wide_width field in
    let rows = c.args.rows.now in
    let operands = c.operands_of-operand-items.result.now in
    let k = c.loop-operand.operand-index in
    let empty : Operand = record { from = 0; times = 0 } in
    let operand = get_or operands k empty in
    let from = get_or rows operand.from [] in
    let times : Operand → ℕ = λ operand. operand.times in
    let read : Operand → List ℕ = λ operand. elements_of field (row_read code.net rows [] c.args.link operand) in
    let inside : k < length operands = omega (arith, c.loop-operand-test.true) in
    let is_operand = c.operands_of-operand-items.ensures.valid k empty inside in
    let below : operand.from < length rows = omega (arith, is_operand.source_row c.requires.link, c.requires.rows) in
    let this : row_read code.net rows [] c.args.link operand ≡ from =
    ap (λ (b : Bool). slice_index_or (if b then rows else []) operand.from []) c.requires.link in
    let is : elements_of field from ≡ get_or (map read operands) k [] =
    ap (elements_of field) (sym this) ∙ sym (get_or-map read operands k empty [] inside) in
    let long : length from ≡ 64 = c.told-rows operand.from below in
    let wide : length (get_or (map read operands) k []) ≡ width =
    ap (length {A = ℕ}) (sym is) ∙ length-elements_in field 64 from refl long in
    sum_more field width (map times operands) (map read operands) k
    (omega (arith, inside, length-map operands times)) (omega (arith, inside, length-map operands read)) wide
    operand.times from c.loop-operand.sum c.add_scaled.new.into (get_or-map times operands k empty 0 inside) is
    c.add_scaled.ensures.sum c.loop-operand.invariant
