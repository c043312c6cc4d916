use Rattle.std.proofs.Common.{◌≡◌, ℕ, Bool, false, arith, below_more, sym, ◌∙◌}
use Rattle.std.specs.List.{list_any, range_with_len}
use Rattle.due_sums.specs.Waiting.{has_input}
use Rattle.generation_frame.specs.Blocks.{pieces}
use Rattle.relay_node.proofs.CameLaws.{any_below, none_below}
use Rattle.relay_node.proofs.feeding.have_come.Goals as goal

pub returns-then-row_has_come : goal.returns-then-row_has_come
returns-then-row_has_come c =
    let test : ℕ → Bool = λ row. list_any (λ piece. has_input c.args.sums.now c.args.generation row piece) (range_with_len 0 pieces) in
    sym (any_below test c.args.rows c.loop-row.row c.loop-row-test.true (sym c.row_has_come.ensures ∙ c.if-row_has_come.true))

pub loop-row-preserved : goal.loop-row-preserved
loop-row-preserved c =
    let Fails : ℕ → Type 0 = λ row. list_any (λ piece. has_input c.args.sums.now c.args.generation row piece) (range_with_len 0 pieces) ≡ false in
    below_more Fails c.loop-row.row c.loop-row.invariant (sym c.row_has_come.ensures ∙ c.if-row_has_come.false)

pub returns : goal.returns
returns c =
    let test : ℕ → Bool = λ row. list_any (λ piece. has_input c.args.sums.now c.args.generation row piece) (range_with_len 0 pieces) in
    sym (none_below test c.args.rows (λ k below. c.loop-row.invariant k (omega (arith, below, c.loop-row-test.false))))
