use Rattle.std.proofs.Common.{◌≡◌, ◌-◌, [], length, map}
use Rattle.code_items.specs.Reading.{repeated_at, link_at}
use Rattle.code_items.specs.Gives.{left_of}
use Rattle.code_items.specs.Marks.{AreMarks}
use Rattle.code_items.proofs.links.noted_links.Given as goal

abbrev pub invariant-loop : goal.invariant-loop
invariant-loop l = record { so_far : repeated_at (link_at l.fn.nodes) (l.count - l.counter) l.links.items (left_of l.rest) ≡ repeated_at (link_at l.fn.nodes) l.count [] (left_of l.fn.start); names : l.names ≡ map (λ link. link.name) l.links.items; tails : AreMarks l.fn.nodes (map (λ link. link.tail) l.links.items) l.tails; placed : length l.links.items ≡ l.counter }
