use Rattle.std.proofs.Common.{arith}
use Rattle.node_program.proofs.LiveLaws.{length-operands}
use Rattle.node_program.proofs.OperandLaws.{operands_of_draft}
use Rattle.node_program.proofs.coding.Coding.operands_of.Goals as goal

pub at-requires : goal.at-requires
at-requires c = omega (arith, length-operands c.args.self.now.draft)

pub returns-clause-valid : goal.returns-clause-valid
returns-clause-valid c = rw c.as_slice.ensures (rw c.at.ensures at (operands_of_draft c.args.self.now.draft c.args.link))
