use Rattle.std.proofs.Common.{◌≡◌, ◌<◌, ◌≤◌, ℕ, List, [], ap, arith, get_or, length, map, sym, ◌∙◌}
use Rattle.std.proofs.lemmas.List.{get_or-map, length-map}
use Rattle.linear_algebra.specs.Elements.{elements_of}
use Rattle.linear_algebra.specs.Rows.{combination}
use Rattle.node_program.specs.declared.Operand.{Operand}
use Rattle.field_rows.proofs.ElementLaws.{elements_of-zeros, length-elements_in}
use Rattle.link_rows.proofs.SumSteps.{sum_all, sum_more}
use Rattle.link_rows.specs.LinkRows.{row_read}
use Rattle.field_rows.specs.Widths.{width_in}
use Rattle.link_rows.proofs.rows.row_of.Goals as goal

pub returns-then-fails : goal.returns-then-fails
returns-then-fails g c = rw c.if-fails.true (elements_of-zeros c.args.coding.field g.row.W c.requires.even)

pub loop-operand-init : goal.loop-operand-init
loop-operand-init g c = elements_of-zeros c.args.coding.field g.row.W c.requires.even

pub loop-operand-preserved : goal.loop-operand-preserved
loop-operand-preserved g c =
    let field = c.args.coding.field in
    let width = width_in field g.row.W in
    let operands = c.operands_of-operand-items.result.now in
    let k = c.loop-operand.operand-index in
    let from = c.operand_row-from.result.now in
    let times : Operand → ℕ = λ operand. operand.times in
    let read : Operand → List ℕ = λ operand. elements_of field (row_read c.args.coding.net.now c.args.block.now c.args.before.now c.args.link operand) in
    let inside : k < length operands = omega (arith, c.loop-operand-test.true) in
    let empty : Operand = record { from = 0; times = 0 } in
    let is : elements_of field from ≡ get_or (map read operands) k [] =
    ap (elements_of field) c.operand_row-from.ensures ∙ sym (get_or-map read operands k empty [] inside) in
    let wide : length (get_or (map read operands) k []) ≡ width =
    ap (length {A = ℕ}) (sym is) ∙ length-elements_in field g.row.W from c.requires.even (omega arith) in
    sum_more field width (map times operands) (map read operands) k (omega (arith, inside, length-map operands times)) (omega (arith, inside, length-map operands read)) wide
    (times (get_or operands k empty)) from c.loop-operand.row c.add_scaled.new.into (get_or-map times operands k empty 0 inside) is c.add_scaled.ensures.sum c.loop-operand.invariant

pub returns : goal.returns
returns g c =
    let coding = c.args.coding in
    let field = coding.field in
    let width = width_in field g.row.W in
    let operands = c.operands_of-operand-items.result.now in
    let k = c.loop-operand.operand-index in
    let times : Operand → ℕ = λ operand. operand.times in
    let read : Operand → List ℕ = λ operand. elements_of field (row_read coding.net.now c.args.block.now c.args.before.now c.args.link operand) in
    let all : length operands ≤ k = c.loop-operand-test.false in
    rw c.if-fails.false
    (sum_all field width (map times operands) (map read operands) k (omega (arith, all, length-map operands times)) (omega (arith, all, length-map operands read))
    c.loop-operand.row c.loop-operand.invariant
    ∙ ap (λ some. combination field width (map times some) (map read some)) c.operands_of-operand-items.ensures.value)
