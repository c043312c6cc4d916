use Rattle.std.proofs.Common.{◌≡◌, ◌<◌, ℕ, List, [], ap, arith, false, get_or, length, refl, subst, sym, take, ◌∙◌}
use Rattle.std.proofs.lemmas.List.{get_or_read}
use Rattle.node_program.specs.Value.{width_of}
use Rattle.link_rows.proofs.LinkLaws.{filled_before, filled_more, row_sum-value, width_of-rows_in}
use Rattle.linear_algebra.specs.Elements.{elements_of}
use Rattle.link_rows.specs.LinkRows.{row_sum}
use Rattle.field_rows.specs.Widths.{rows_in, width_in}
use Rattle.link_rows.proofs.rows.LinkRows.fill.Goals as goal

pub loop-link-preserved : goal.loop-link-preserved
loop-link-preserved g c =
    let coding = c.args.coding in
    let field = coding.field in
    let block = c.args.block.now in
    let fails = c.args.fails.now in
    let link = c.loop-link.link in
    let rows = c.loop-link.self-inside.rows.items in
    let first = c.index-block-0.result in
    let some : 0 < length block = omega (arith, c.requires.block, coding.draft.some_rate) in
    let told : length first ≡ g.row.W = omega arith in
    let long : length (get_or block 0 []) ≡ g.row.W = ap (length {A = ℕ}) (sym (get_or_read block 0 first some c.index-block-0.is [])) ∙ told in
    let wide : width_of (rows_in field block) ≡ width_in field g.row.W = width_of-rows_in field g.row.W block c.requires.even some long in
    let inside : link < length coding.net.now.links = omega arith in
    filled_more coding.net.now field coding.operands.now fails (rows_in field block) link rows _ c.row_of-row.result inside c.loop-link.invariant refl
    (λ failed table.
    let before = filled_before coding.net.now field coding.operands.now fails (rows_in field block) link rows (omega (arith, inside)) c.loop-link.invariant failed table in
    let Made : List (List ℕ) → Type 0 =
    λ some. elements_of field c.row_of-row.result ≡ row_sum coding.net.now field coding.operands.now (width_in field g.row.W) (get_or fails link false) block some link in
    subst Made (ap (take link) c.deref.ensures.value) c.row_of-row.ensures
    ∙ row_sum-value coding.draft failed block (take link rows) link (width_in field g.row.W) (get_or fails link false) c.requires.block wide (table.link link inside) before)
