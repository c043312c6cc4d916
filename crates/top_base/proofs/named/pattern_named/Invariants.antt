use Rattle.std.proofs.Common.{◌≡◌, ◌<◌, ℕ, false, get_or}
use Rattle.std.specs.Str.{bytes_eq}
use Rattle.net_model.specs.declared.Pattern.{Pattern}
use Rattle.top_base.proofs.named.pattern_named.Given as goal

-- no pattern before has the name
abbrev pub invariant-loop-pattern : goal.invariant-loop-pattern
invariant-loop-pattern l = (k : ℕ) → k < l.pattern → (d : Pattern) → bytes_eq (get_or l.net.patterns k d).name l.name ≡ false
