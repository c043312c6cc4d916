use Rattle.std.proofs.Common.{◌≡◌, ◌-◌, []}
use Rattle.code_items.specs.Reading.{repeated_at, other_name_at}
use Rattle.code_items.specs.Gives.{left_of}
use Rattle.code_items.proofs.nodes.named_nodes.Given as goal

abbrev pub invariant-loop : goal.invariant-loop
invariant-loop l = record { so_far : repeated_at other_name_at (l.count - l.counter) l.nodes.items (left_of l.rest) ≡ repeated_at other_name_at l.count [] (left_of l.fn.start); names : l.names ≡ l.nodes.items }
