use Rattle.std.proofs.Common.{◌≡◌, ◌<◌, ℕ, get_or}
use Rattle.net_maker.specs.Subsets.{binomial}
use Rattle.net_maker.proofs.fits.binomial.Given as goal

abbrev pub invariant-loop-above : goal.invariant-loop-above
invariant-loop-above l = (k : ℕ) → k < 33 → get_or l.row k 0 ≡ binomial l.above k
