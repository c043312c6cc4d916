use Rattle.std.proofs.Common.{◌≡◌, ◌<◌, ◌≤◌, ◌+◌, ℕ, get_or, length}
use Rattle.net_maker.proofs.subsets.first_full.Given as goal

abbrev pub invariant-loop-place : goal.invariant-loop-place
invariant-loop-place l = record {
  within : l.place ≤ length l.subset;
  full : (i : ℕ) → l.place ≤ i → i < length l.subset → get_or l.subset i 0 + length l.subset ≡ l.most + 1 + i;
}

abbrev pub decreases-loop-place : goal.decreases-loop-place
decreases-loop-place l = l.place
