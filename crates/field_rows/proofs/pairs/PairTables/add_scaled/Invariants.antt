use Rattle.std.proofs.Common.{◌≡◌, ◌≤◌, ◌-◌, ◌%◌, length}
use Rattle.field_rows.specs.Added.{IsAddedBelow}
use Rattle.field_rows.specs.PairSums.{pair_sum_of}
use Rattle.field_rows.proofs.pairs.PairTables.add_scaled.Given as goal

abbrev pub invariant-loop-at : goal.invariant-loop-at
invariant-loop-at l = record {
  even : l.at % 2 ≡ 0;
  within : l.at ≤ length l.from;
  added : IsAddedBelow (pair_sum_of l.self.low.now l.self.high.now l.from) l.at l.fn.into l.into;
}

abbrev pub decreases-loop-at : goal.decreases-loop-at
decreases-loop-at l = length l.from - l.at

abbrev pub invariant-loop-at-2 : goal.invariant-loop-at-2
invariant-loop-at-2 l = record {
  even : l.at % 2 ≡ 0;
  within : l.at ≤ length l.from;
  added : IsAddedBelow (pair_sum_of l.self.low.now l.self.high.now l.from) l.at l.fn.into l.into;
}

abbrev pub decreases-loop-at-2 : goal.decreases-loop-at-2
decreases-loop-at-2 l = length l.from - l.at
