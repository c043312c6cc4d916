use Rattle.std.proofs.Common.{◌≡◌, length, take}
use Rattle.counted_steps.specs.Steps.{RoseBy}
use Rattle.gf_tables.specs.Kind.{IsOfKind}
use Rattle.gf_tables.specs.declared.kind.FieldKind.{FieldKind}
use Rattle.node_program.specs.Carried.{IsCarried, carry_steps}
use Rattle.node_program.proofs.carrying.carry.Given as goal

-- the link's row is the sum of the operands so far
abbrev pub invariant-loop-operand : goal.invariant-loop-operand
invariant-loop-operand g l = record {
  columns : l.vectors.columns ≡ l.initial.vectors.columns;
  height : length l.vectors.rows ≡ length l.initial.vectors.rows;
  carried : (kind : FieldKind) → IsOfKind kind g.F.Field.SIZE g.F.Field.BYTES g.F.Field.MARK g.F.Field.product
      → IsCarried kind g.F.Field.number l.leaves (take l.operand-index l.operands) l.link l.initial.vectors l.vectors;
  ticks : RoseBy (carry_steps l.leaves l.operand-index l.initial.vectors.columns) l.initial.steps l.steps;
}
