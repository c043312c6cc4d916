use Rattle.std.proofs.Common.{◌≡◌, ◌<◌, ◌≤◌, ◌+◌, ℕ, get_or}
use Rattle.net_maker.proofs.subsets.restart.Given as goal

abbrev pub invariant-loop-at : goal.invariant-loop-at
invariant-loop-at l = record {
  before : (i : ℕ) → i < l.place → get_or l.subset i 0 ≡ get_or l.initial.subset i 0;
  after : (i : ℕ) → l.place ≤ i → i < l.at → get_or l.subset i 0 + l.place ≡ l.first + i;
}
