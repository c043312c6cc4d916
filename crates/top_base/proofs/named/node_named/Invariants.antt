use Rattle.std.proofs.Common.{◌≡◌, ◌<◌, ℕ, List, false, get_or}
use Rattle.std.specs.Str.{bytes_eq}
use Rattle.top_base.proofs.named.node_named.Given as goal

-- no node before has the name
abbrev pub invariant-loop-node : goal.invariant-loop-node
invariant-loop-node l = (k : ℕ) → k < l.node → (d : List ℕ) → bytes_eq (get_or l.net.nodes k d) l.name ≡ false
