use Rattle.std.proofs.Common.{◌≡◌, ◌++◌, map, drop}
use Rattle.net_reader.specs.Text.{each_alone}
use Rattle.net_reader.proofs.parts.add_each_alone.Given as goal

-- with the patterns of the links from here on there are all
abbrev pub invariant-loop-link : goal.invariant-loop-link
invariant-loop-link l =
    l.patterns.items ++ each_alone (map (λ name. name.items) (drop l.link l.link_names)) l.link
    ≡ l.fn.patterns.items ++ each_alone (map (λ name. name.items) l.link_names) 0
