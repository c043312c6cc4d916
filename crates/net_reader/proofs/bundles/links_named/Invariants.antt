use Rattle.std.proofs.Common.{◌≡◌, ◌≤◌, ◌+◌, ◌-◌, map}
use Rattle.net_reader.specs.Bundles.{made_names}
use Rattle.net_reader.proofs.bundles.links_named.Given as goal

-- the names of the links so far
abbrev pub invariant-loop-number : goal.invariant-loop-number
invariant-loop-number l = (map (λ name. name.items) l.names.items ≡ made_names l.name (l.number - 1)) × (l.number ≤ l.count + 1)
