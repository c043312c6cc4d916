use Rattle.std.proofs.Common.{◌≡◌, ℕ, ◌<◌, ◌==◌, not, true, get_or}
use Rattle.net_reader.proofs.lines.comment_of.Given as goal

abbrev pub invariant-loop-i : goal.invariant-loop-i
invariant-loop-i l = (k : ℕ) → k < l.i → not (get_or l.line k 0 == 35) ≡ true
