use Rattle.std.proofs.Common.{arith}
use Rattle.code_finish.proofs.solving.no_decoders.Goals as goal

pub loop-init : goal.loop-init
loop-init c = c.in_ok-decoders.ensures.len

pub loop-preserved : goal.loop-preserved
loop-preserved c = omega (arith, c.in_ok-push.ensures.len, c.loop.invariant)

pub returns : goal.returns
returns c = omega (arith, c.loop.invariant, c.loop-test.false, c.loop.auto.counter-end)
