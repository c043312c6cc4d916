use Rattle.std.proofs.Common.{ℕ, List, ◌≡◌, ◌≤◌, ◌+◌, ◌-◌, ◌*◌, ◌++◌, take, drop, ap, ◌∙◌, sym, arith, length}
use Rattle.std.proofs.lemmas.List.{take_all}
use Rattle.linear_algebra.proofs.EntryLaws.{row_end}
use Rattle.linear_algebra.specs.Elements.{elements_of}
use Rattle.linear_algebra.specs.Rows.{combination}
use Rattle.generation_frame.specs.Blocks.{row_bytes}
use Rattle.coded_traffic.specs.CodeBlocks.{row_width}
use Rattle.sink_decoder.proofs.SumLaws.{elements_of-written, row_made, rows_before, rows_before-more, rows_before-all}
use Rattle.sink_decoder.specs.Sums.{values_held}
use Rattle.sink_decoder.proofs.decoding.decode_rows.Goals as goal

pub loop-i-preserved : goal.loop-i-preserved
loop-i-preserved c =
    let field = c.args.field in
    let rate = length c.args.live.now in
    let entries = c.args.entries.now in
    let values = values_held field c.args.live.now c.args.held.now in
    let i = c.loop-i.i in
    let row = c.sum_rows.new.into in
    let rows = c.loop-i.into in
    let k = i * 1024 + 1024 - i * 1024 in
    let size : length rows ≡ rate * row_bytes = c.loop-i.auto.into ∙ c.requires.room in
    let fits : i * row_bytes + row_bytes ≤ rate * row_bytes = row_end i rate row_bytes c.loop-i-test.true in
    let width : i * rate + rate - i * rate ≡ rate = omega arith in
    let made : elements_of field row ≡ row_made field rate entries values i =
    c.sum_rows.ensures.sum ∙ ap (λ (n : ℕ). combination field (row_width field) (take n (drop (i * rate) entries)) values) width in
    elements_of-written field i k rows row (omega (arith, size, fits)) c.sum_rows.ensures.width
    ∙ ap (λ (before : List ℕ). before ++ elements_of field row) c.loop-i.invariant
    ∙ ap (λ (last : List ℕ). rows_before field rate entries values i ++ last) made
    ∙ sym (rows_before-more field rate entries values i)

pub returns-clause-value : goal.returns-clause-value
returns-clause-value c =
    let field = c.args.field in
    let rate = length c.args.live.now in
    let values = values_held field c.args.live.now c.args.held.now in
    let all : c.loop-i.i ≡ rate = omega (arith, c.loop-i-test.false, c.loop-i.auto.i-end) in
    let whole : length c.loop-i.into ≤ c.loop-i.i * row_bytes = omega (arith, c.loop-i.auto.into ∙ c.requires.room, ap (λ (n : ℕ). n * row_bytes) all) in
    ap (elements_of field) (sym (take_all (c.loop-i.i * row_bytes) c.loop-i.into whole))
    ∙ c.loop-i.invariant
    ∙ ap (rows_before field rate c.args.entries.now values) all
    ∙ rows_before-all field rate c.args.entries.now values
