use Rattle.std.proofs.Common.{sym, ap, ◌∙◌}
use Rattle.std.specs.List.{list_any}
use Rattle.std.proofs.lemmas.Bool.{or_left, or_right}
use Rattle.std.proofs.lemmas.List.{take_all}
use Rattle.node_program.specs.CodeValue.{reads_live_in}
use Rattle.node_program.proofs.LiveLaws.{is_live_in-failed, is_live_in-some, is_live_in-none}
use Rattle.node_program.specs.declared.Operand.{Operand}
use Rattle.node_program.proofs.liveness.+live.Goals as goal
use Rattle.node_program.proofs.liveness.+live.Goals.{then-leaves-via-then-leaves, then-leaves-via-else-leaves+then-live}

pub returns-then-is_failed : goal.returns-then-is_failed
returns-then-is_failed t c = sym (is_live_in-failed c.args.code.now c.args.pattern c.args.link (cc))

pub returns-then-leaves : goal.returns-then-leaves
returns-then-leaves t c =
    let d : Operand = record { from = 0; times = 0 } in
    let found = is_live_in-some c.args.code.now c.args.pattern c.args.link c.operands_of-operand-items.result.now c.loop-operand.operand-index d
    (cc) c.operands_of-operand-items.ensures.value c.loop-operand-test.true in
    elim c.then-leaves.branch [
      | then-leaves-via-then-leaves w ↦ sym (found (or_left _ _ (sym c.leaves_source-leaves.ensures ∙ w.if-leaves.true)))
      | then-leaves-via-else-leaves+then-live w ↦ sym (found (or_right _ _ (sym w.live.ensures ∙ w.if-live.true)))
    ]

pub returns : goal.returns
returns t c =
    let reads = reads_live_in c.args.code.now c.args.pattern c.args.link in
    sym (is_live_in-none c.args.code.now c.args.pattern c.args.link c.operands_of-operand-items.result.now (cc) c.operands_of-operand-items.ensures.value
    (ap (list_any reads) (sym (take_all c.loop-operand.operand-index c.operands_of-operand-items.result.now c.loop-operand-test.false)) ∙ c.loop-operand.invariant))
