use Rattle.std.proofs.Common.{◌≡◌, ◌<◌, ◌==◌, ℕ, false, get_or}
use Rattle.top_base.proofs.named.place_among.Given as goal

-- no sink before is the node
abbrev pub invariant-loop-place : goal.invariant-loop-place
invariant-loop-place l = (k : ℕ) → k < l.place → (d : ℕ) → (get_or l.net.sinks k d == l.node) ≡ false
