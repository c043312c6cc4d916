use Rattle.std.proofs.Common.{◌≡◌, take, map}
use Rattle.lif_compiler.specs.Operands.{operands_of}
use Rattle.lif_compiler.proofs.operands.operands_with.Given as goal

-- the operands of the sources before this one
abbrev pub invariant-loop-place : goal.invariant-loop-place
invariant-loop-place g l = l.operands.items ≡ operands_of (take l.place l.sources) (take l.place (map g.F.Field.number l.coefficients))
