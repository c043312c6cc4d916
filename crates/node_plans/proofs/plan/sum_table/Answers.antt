use Rattle.std.proofs.Common.{◌≡◌, ◌<◌, ◌∷◌, ◌++◌, [], ℕ, List, All, map, take, sym, ◌∙◌, ap, subst, get_or}
use Rattle.std.proofs.lemmas.List.{get_or_read, map_more}
use Rattle.node_program.specs.declared.Operand.{Operand}
use Rattle.node_plans.proofs.WiringLaws.{Contains-input}
use Rattle.node_plans.specs.Plans.{input_count, input_place}
use Rattle.node_plans.proofs.plan.sum_table.Goals as goal
use Rattle.node_plans.proofs.plan.sum_table.Goals.{After-as_slice}

-- the operands of this turn
operands_read : (c : After-as_slice) → c.as_slice.result.now ≡ get_or c.as_slice-operands-items.result.now c.loop-operands.operands-index []
operands_read c =
    c.as_slice.ensures
    ∙ get_or_read c.as_slice-operands-items.result.now c.loop-operands.operands-index c.operands-item.result c.loop-operands-test.true c.operands-item.is []

pub inputs_of-requires-clause-operands : goal.inputs_of-requires-clause-operands
inputs_of-requires-clause-operands c k d within inner =
    let plan = c.args.plan.now in
    let Have : List Operand → Type 0 = All (λ operand. input_place plan operand.from < input_count plan) in
    let Each : List (List Operand) → Type 0 = All Have in
    let each : Each c.as_slice-operands-items.result.now = subst Each (sym c.as_slice-operands-items.ensures) c.requires.plan.inputs in
    let have : Have c.as_slice.result.now = subst Have (sym (operands_read c)) (each c.loop-operands.operands-index [] c.loop-operands-test.true) in
    Contains-input plan (get_or c.as_slice.result.now k d).from (have k d within) inner

pub loop-operands-preserved : goal.loop-operands-preserved
loop-operands-preserved c =
    let place : Operand → ℕ = λ operand. input_place c.args.plan.now operand.from in
    let all = c.as_slice-operands-items.result.now in
    let turn = c.loop-operands.operands-index in
    let here : c.in_ok-inputs.inputs ≡ map place (get_or all turn []) =
    c.in_ok-inputs.ensures ∙ ap (map place) (c.as_slice.ensures ∙ get_or_read all turn c.operands-item.result c.loop-operands-test.true c.operands-item.is []) in
    c.in_ok-push.ensures.items
    ∙ ap (λ (sums : List (List ℕ)). sums ++ c.in_ok-inputs.inputs ∷ []) c.loop-operands.invariant
    ∙ ap (λ (sum : List ℕ). map (map place) (take turn all) ++ sum ∷ []) here
    ∙ sym (map_more (map place) all turn [] c.loop-operands-test.true)
