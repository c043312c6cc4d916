-- One more summand is added.
use Rattle.std.proofs.Common.{◌≡◌, ℕ, List, get_or, length, rules, subst, sym}
use Rattle.std.proofs.lemmas.List.{get_or_default}
use Rattle.generation_frame.specs.Blocks.{piece_bytes}
use Rattle.linear_algebra.specs.Elements.{elements_of}
use Rattle.linear_algebra.specs.Rows.{add_rows, scale_row}
use Rattle.relay_node.specs.Summed.{IsSummed, came_of}
use Rattle.relay_node.specs.declared.summands.Summand.{Summand}
use Rattle.relay_node.proofs.PayloadLaws.{summed-next, summed-none}
use Rattle.relay_node.proofs.summing.add_summands.Goals as goal

pub loop-summand-init : goal.loop-summand-init
loop-summand-init c =
    let came = came_of c.args.sums.now c.args.due.generation c.args.due.piece in
    subst (IsSummed c.args.field c.args.summands.now came 0) (sym c.requires.zeros) (summed-none c.args.field c.args.summands.now came)

pub loop-summand-preserved : goal.loop-summand-preserved
loop-summand-preserved c =
    let field = c.args.field in
    let summands = c.args.summands.now in
    let k = c.loop-summand.summand-index in
    let summand : Summand = get_or summands k (record { input = 0; times = 0 }) in
    let came = came_of c.args.sums.now c.args.due.generation c.args.due.piece in
    let given : c.input-came.result.now ≡ came summand = c.input-came.ensures in
    let long : length (came summand) ≡ piece_bytes = subst (λ (bytes : List ℕ). length bytes ≡ piece_bytes) given (search rules) in
    let made = subst (λ (from : List ℕ). elements_of field c.add_scaled.new.into ≡ add_rows (elements_of field c.loop-summand.payload) (scale_row field summand.times (elements_of field from))) given c.add_scaled.ensures.sum in
    summed-next field summands came k summand c.loop-summand.payload c.add_scaled.new.into c.loop-summand-test.true
    (get_or_default summands k summand (record { input = 0; times = 0 }) c.loop-summand-test.true) long c.add_scaled.ensures.count made c.loop-summand.invariant
