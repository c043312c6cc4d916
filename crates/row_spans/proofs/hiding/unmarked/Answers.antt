use Rattle.std.proofs.Common.{arith}
use Rattle.row_spans.proofs.hiding.unmarked.Goals as goal

pub unreachable-requires : goal.unreachable-requires
unreachable-requires c = c.requires.some (λ p below. c.loop-place.invariant p (omega (arith, below, c.loop-place-test.false)))
