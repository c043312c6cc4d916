use Rattle.std.proofs.Common.{◌≡◌, ◌-◌, []}
use Rattle.code_items.specs.Reading.{repeated_at, element_at, any}
use Rattle.code_items.specs.Gives.{left_of}
use Rattle.code_items.proofs.decoders.entries.Given as goal

abbrev pub invariant-loop : goal.invariant-loop
invariant-loop l = repeated_at (λ _. any (element_at l.fn.field)) (l.count - l.counter) l.entries.items (left_of l.rest) ≡ repeated_at (λ _. any (element_at l.fn.field)) l.count [] (left_of l.fn.start)
