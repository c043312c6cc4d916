use Rattle.std.proofs.Common.{◌≡◌, ◌<◌, ◌≤◌, ◌+◌, ℕ, get_or, length}
use Rattle.net_maker.specs.Subsets.{binomial}
use Rattle.net_maker.proofs.fits.next_row.Given as goal

abbrev pub invariant-loop-k : goal.invariant-loop-k
invariant-loop-k l = record {
  old : (k : ℕ) → k < l.k → k < length l.row → get_or l.row k 0 ≡ binomial l.above k;
  new : (k : ℕ) → l.k ≤ k → k < length l.row → get_or l.row k 0 ≡ binomial (l.above + 1) k;
}
