use Rattle.std.proofs.Common.{◌≡◌, ◌-◌, ◌+◌, [], ◌∷◌, length, map, codes}
use Rattle.code_items.specs.Reading.{repeated_at, pattern_at}
use Rattle.code_items.specs.Gives.{left_of}
use Rattle.code_items.proofs.patterns.named_patterns.Given as goal

abbrev pub invariant-loop : goal.invariant-loop
invariant-loop l = record { so_far : repeated_at (pattern_at l.fn.links) (l.count - l.counter) l.patterns.items (left_of l.rest) ≡ repeated_at (pattern_at l.fn.links) l.count (record { name = codes "none"; links = [] } ∷ []) (left_of l.fn.start); names : l.names ≡ map (λ pattern. pattern.name) l.patterns.items; placed : length l.patterns.items ≡ l.counter + 1 }
