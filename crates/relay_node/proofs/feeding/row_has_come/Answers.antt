use Rattle.std.proofs.Common.{◌≡◌, ℕ, false, arith, below_more, sym, ◌∙◌}
use Rattle.due_sums.specs.Waiting.{has_input}
use Rattle.generation_frame.specs.Blocks.{pieces}
use Rattle.relay_node.proofs.CameLaws.{any_below, none_below}
use Rattle.relay_node.proofs.feeding.row_has_come.Goals as goal

pub returns-then-has_input : goal.returns-then-has_input
returns-then-has_input c =
    let test = has_input c.args.sums.now c.args.generation c.args.row in
    sym (any_below test pieces c.loop-piece.piece c.loop-piece-test.true (sym c.has_input.ensures ∙ c.if-has_input.true))

pub loop-piece-preserved : goal.loop-piece-preserved
loop-piece-preserved c =
    let Fails : ℕ → Type 0 = λ k. has_input c.args.sums.now c.args.generation c.args.row k ≡ false in
    below_more Fails c.loop-piece.piece c.loop-piece.invariant (sym c.has_input.ensures ∙ c.if-has_input.false)

pub returns : goal.returns
returns c =
    let test = has_input c.args.sums.now c.args.generation c.args.row in
    sym (none_below test pieces (λ k below. c.loop-piece.invariant k (omega (arith, below, c.loop-piece-test.false))))
