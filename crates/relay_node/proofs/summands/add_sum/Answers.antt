-- One more summand lies behind the others.
use Rattle.std.proofs.Common.{◌≡◌, ◌++◌, ◌∷◌, ◌∙◌, List, [], ap, append_assoc, arith, get_or, length, slice_get, slice_index_or, Some, sym, take, ℕ}
use Rattle.std.proofs.lemmas.List.{length-map, take_all}
use Rattle.std.proofs.lemmas.Option.{get_or_from_slice_get}
use Rattle.node_program.specs.declared.Operand.{Operand}
use Rattle.relay_node.specs.Summands.{operands_at, summand_of, summands_at}
use Rattle.relay_node.specs.declared.summands.Summand.{Summand}
use Rattle.relay_node.proofs.SummandLaws.{sum-inputs, summands-next}
use Rattle.relay_node.proofs.summands.add_sum.Goals as goal

-- the operands of the sum
operands_read : (table : List (List Operand)) (sum : ℕ) (listed operands : List Operand) → slice_get table sum ≡ Some listed → operands ≡ listed → operands ≡ slice_index_or table sum []
operands_read table sum listed operands found same = same ∙ sym (get_or_from_slice_get table sum listed [] found)

pub loop-place-preserved : goal.loop-place-preserved
loop-place-preserved c =
    let plan = c.args.plan.now in
    let sum = c.args.sum in
    let place = c.loop-place.place in
    let operands = c.as_slice-operands.result.now in
    let inputs = c.as_slice-inputs.result.now in
    let d : Operand = record { from = 0; times = 0 } in
    let summand : Summand = record { input = get_or inputs place 0; times = (get_or operands place d).times } in
    let same = operands_read plan.operands sum c.at.result.now operands c.at.ensures c.as_slice-operands.ensures in
    let is = c.as_slice-inputs.ensures ∙ sum-inputs plan c.args.sums.now sum c.at-2.result.now c.requires.sums c.requires.sum c.at-2.ensures in
    c.in_ok-push.ensures.items
    ∙ ap (λ (items : List Summand). items ++ summand ∷ []) c.loop-place.invariant
    ∙ append_assoc c.args.all.now.items (take place (summands_at plan sum)) (summand ∷ [])
    ∙ ap (λ (items : List Summand). c.args.all.now.items ++ items) (sym (summands-next plan sum operands inputs place d same is c.loop-place-test.true))

pub returns : goal.returns
returns c =
    let plan = c.args.plan.now in
    let sum = c.args.sum in
    let same = operands_read plan.operands sum c.at.result.now c.as_slice-operands.result.now c.at.ensures c.as_slice-operands.ensures in
    c.loop-place.invariant
    ∙ ap (λ (items : List Summand). c.args.all.now.items ++ items)
    (take_all c.loop-place.place (summands_at plan sum) (omega (arith, length-map (operands_at plan sum) (summand_of plan), ap length same)))
