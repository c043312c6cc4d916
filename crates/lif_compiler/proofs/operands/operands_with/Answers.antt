use Rattle.std.specs.Prelude.{◌≡◌, ◌<◌, ◌+◌, ℕ, List, ◌++◌, length, map, take}
use Rattle.std.proofs.Common.{get_or, arith, sym, ap, ◌∙◌, add-one}
use Rattle.std.proofs.Math.Path.{ap₂}
use Rattle.std.proofs.lemmas.List.{get_or-map, length-map, take_all, append-nil}
use Rattle.node_program.specs.declared.Operand.{Operand}
use Rattle.lif_compiler.proofs.OperandLaws.{operand_of, operand_of-none, operand_of-some, operands_of-more}
use Rattle.lif_compiler.specs.Operands.{operands_of}
use Rattle.lif_compiler.proofs.operands.operands_with.Goals as goal
use Rattle.lif_compiler.proofs.operands.operands_with.Goals.{then-times-ne0+in_ok-push, else-times-ne0}

-- the operands with that of the next source
next : (sources times : List ℕ) (k one : ℕ) (old new : List Operand) → k < length sources → k < length times → get_or times k 0 ≡ one
    → old ≡ operands_of (take k sources) (take k times) → new ≡ old ++ operand_of (get_or sources k 0) one
    → new ≡ operands_of (take (k + 1) sources) (take (k + 1) times)
next sources times k one old new below within here before added =
    let more = operands_of-more sources times k below within in
    added ∙ ap₂ (λ (l : List Operand) t. l ++ operand_of (get_or sources k 0) t) before (sym here) ∙ sym more
    ∙ ap (λ n. operands_of (take n sources) (take n times)) (sym (add-one k))

pub loop-place-preserved : goal.loop-place-preserved
loop-place-preserved g c =
    let sources = c.args.sources.now in
    let numbers = map g.F.Field.number c.args.coefficients.now in
    let k = c.loop-place.place in
    let below : k < length sources = c.loop-place-test.true in
    let inside : k < length c.args.coefficients.now = omega (arith, c.requires) in
    let within : k < length numbers = simp length-map inside in
    let one = c.number-times.result in
    let here : get_or numbers k 0 ≡ one =
    get_or-map g.F.Field.number c.args.coefficients.now k c.index-coefficients-place.result 0 inside
    ∙ ap g.F.Field.number (sym c.index-coefficients-place.is) ∙ sym c.number-times.ensures.value in
    let step = next sources numbers k one c.loop-place.operands.items c.if-times-ne0.operands.items below within here c.loop-place.invariant in
    elim c.if-times-ne0.branch [
      | then-times-ne0+in_ok-push w ↦ step (ap (λ v. v.items) w.operands-is ∙ w.in_ok-push.ensures.items ∙ ap (◌++◌ c.loop-place.operands.items) (sym (operand_of-some (get_or sources k 0) one w.if-times-ne0.true)))
      | else-times-ne0 w ↦ step (ap (λ v. v.items) w.operands-is ∙ sym (append-nil c.loop-place.operands.items) ∙ ap (◌++◌ c.loop-place.operands.items) (sym (operand_of-none (get_or sources k 0) one w.if-times-ne0.false)))
    ]

pub returns : goal.returns
returns g c =
    let sources = c.args.sources.now in
    let numbers = map g.F.Field.number c.args.coefficients.now in
    let k = c.loop-place.place in
    let whole : length numbers ≡ length sources = simp length-map c.requires in
    c.of.ensures ∙ c.loop-place.invariant ∙ ap₂ operands_of (take_all k sources (omega arith)) (take_all k numbers (omega (arith, whole)))
