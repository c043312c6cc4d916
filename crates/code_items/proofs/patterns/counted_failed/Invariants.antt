use Rattle.std.proofs.Common.{◌≡◌, ◌-◌, []}
use Rattle.code_items.specs.Reading.{repeated_at, failed_at}
use Rattle.code_items.specs.Gives.{left_of}
use Rattle.code_items.proofs.patterns.counted_failed.Given as goal

abbrev pub invariant-loop : goal.invariant-loop
invariant-loop l = repeated_at (failed_at l.fn.links) (l.count - l.counter) l.all.items (left_of l.rest) ≡ repeated_at (failed_at l.fn.links) l.count [] (left_of l.fn.start)
