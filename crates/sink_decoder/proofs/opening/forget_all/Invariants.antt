use Rattle.std.proofs.Common.{◌≡◌, ℕ, ◌<◌, map, slice_index_or}
use Rattle.held_rows.specs.Held.{Held, HoldsNone, row_count}
use Rattle.sink_decoder.proofs.opening.forget_all.Given as goal

-- those so far hold nothing
abbrev pub invariant-loop-held : goal.invariant-loop-held
invariant-loop-held l = record {
  none : (k : ℕ) (d : Held) → k < l.held-index → HoldsNone (slice_index_or l.came k d);
  rows : map row_count l.came ≡ map row_count l.initial.came;
}
