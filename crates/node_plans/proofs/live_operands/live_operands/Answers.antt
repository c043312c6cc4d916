use Rattle.std.proofs.Common.{List, All, sym, subst, arith}
use Rattle.node_program.proofs.LiveLaws.{length-operands, operands_of_link}
use Rattle.node_program.specs.Operands.{IsOperand}
use Rattle.node_program.specs.declared.Operand.{Operand}
use Rattle.node_plans.proofs.live_operands.live_operands.Goals as goal

pub at-requires : goal.at-requires
at-requires c = omega (arith, c.requires.link, length-operands c.args.code.now.code.draft)

pub bounds-live-operand : goal.bounds-live-operand
bounds-live-operand c =
    let code = c.args.code.now in
    let Are : List Operand → Type 0 = All (IsOperand code.net code.rate code.field c.args.link) in
    let are : Are c.as_slice-operand-items.result.now = subst Are (sym c.as_slice-operand-items.ensures) (operands_of_link code c.args.link c.at.result.now c.at.ensures) in
    omega (
      arith,
      (are c.loop-operand.operand-index (record { from = 0; times = 0 }) c.loop-operand-test.true).earlier_link (sym c.if-leaves.ensures),
      c.requires.link,
      c.requires.live,
    )
