use Rattle.std.proofs.Common.{◌≡◌, ap, arith, false, sym, ◌∙◌}
use Rattle.std.specs.List.{list_any}
use Rattle.std.proofs.lemmas.Bool.{or_left, or_right}
use Rattle.std.proofs.lemmas.List.{take_all}
use Rattle.std.proofs.lemmas.List.Folds.{list_any_at, list_any_more}
use Rattle.net_model.specs.Walks.{leaves_source}
use Rattle.node_program.specs.LiveTable.{reads_before}
use Rattle.node_program.specs.declared.Operand.{Operand}
use Rattle.node_program.proofs.live_table.is_live_by.Goals as goal
use Rattle.node_program.proofs.live_table.is_live_by.Goals.{then-leaves-via-then-leaves, then-leaves-via-else-leaves+then-before-operand}

pub bounds-before-operand : goal.bounds-before-operand
bounds-before-operand c =
    let d : Operand = record { from = 0; times = 0 } in
    let inner : leaves_source c.args.coding.net.now c.args.link ≡ false = sym c.leaves_source-leaves.ensures ∙ c.if-leaves.false in
    let is = c.operands_of-operand-items.ensures.valid c.loop-operand.operand-index d c.loop-operand-test.true in
    omega (arith, is.earlier_link inner, c.requires.before)

pub returns-then-leaves : goal.returns-then-leaves
returns-then-leaves c =
    let d : Operand = record { from = 0; times = 0 } in
    let reads = reads_before c.args.coding.net.now c.args.before.now c.args.link in
    let found = list_any_at reads c.operands_of-operand-items.result.now c.loop-operand.operand-index d c.loop-operand-test.true in
    let all = ap (list_any reads) (sym c.operands_of-operand-items.ensures.value) in
    rw c.if-fails.false (sym (all ∙ found (elim c.then-leaves.branch [
      | then-leaves-via-then-leaves w ↦ or_left _ _ (sym c.leaves_source-leaves.ensures ∙ w.if-leaves.true)
      | then-leaves-via-else-leaves+then-before-operand w ↦ or_right _ _ w.if-before-operand.true
    ])))

pub loop-operand-preserved : goal.loop-operand-preserved
loop-operand-preserved c =
    let d : Operand = record { from = 0; times = 0 } in
    let inner : leaves_source c.args.coding.net.now c.args.link ≡ false = sym c.leaves_source-leaves.ensures ∙ c.if-leaves.false in
    list_any_more (reads_before c.args.coding.net.now c.args.before.now c.args.link) c.operands_of-operand-items.result.now c.loop-operand.operand-index d c.loop-operand-test.true
    ∙ rw (c.loop-operand.invariant, inner) c.if-before-operand.false

pub returns : goal.returns
returns c =
    let any = list_any (reads_before c.args.coding.net.now c.args.before.now c.args.link) in
    rw c.if-fails.false (sym (ap any (sym c.operands_of-operand-items.ensures.value)
    ∙ ap any (sym (take_all c.loop-operand.operand-index c.operands_of-operand-items.result.now c.loop-operand-test.false)) ∙ c.loop-operand.invariant))
