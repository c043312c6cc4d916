use Rattle.std.proofs.Common.{arith}
use Rattle.net_maker.proofs.SubsetLaws.{binomial-few, row-first}
use Rattle.net_maker.proofs.fits.binomial.Goals as goal

pub loop-above-init : goal.loop-above-init
loop-above-init c = λ k below. row-first 32 k

pub returns-clause-bound : goal.returns-clause-bound
returns-clause-bound c = omega (arith, c.loop-above.invariant c.args.k (omega arith), binomial-few c.loop-above.above c.args.k (omega arith))
