use Rattle.std.proofs.Common.{◌≡◌, ◌-◌, [], length}
use Rattle.code_items.specs.Reading.{repeated_at, sink_at}
use Rattle.code_items.specs.Gives.{left_of}
use Rattle.code_items.specs.Marks.{AreMarks}
use Rattle.code_items.proofs.nodes.counted_sinks.Given as goal

abbrev pub invariant-loop : goal.invariant-loop
invariant-loop l = record { so_far : repeated_at (sink_at l.fn.nodes l.fn.source) (l.count - l.counter) l.sinks.items (left_of l.rest) ≡ repeated_at (sink_at l.fn.nodes l.fn.source) l.count [] (left_of l.fn.start); marks : AreMarks l.fn.nodes l.sinks.items l.marks.items; placed : length l.sinks.items ≡ l.counter }
