use Rattle.std.proofs.Common.{◌≡◌, ◌<◌, ℕ, false, get_or}
use Rattle.std.specs.Str.{bytes_eq}
use Rattle.net_model.specs.declared.Link.{Link}
use Rattle.top_base.proofs.named.link_named.Given as goal

-- no link before has the name
abbrev pub invariant-loop-link : goal.invariant-loop-link
invariant-loop-link l = (k : ℕ) → k < l.link → (d : Link) → bytes_eq (get_or l.net.links k d).name l.name ≡ false
