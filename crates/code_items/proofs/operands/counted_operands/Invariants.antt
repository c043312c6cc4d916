use Rattle.std.proofs.Common.{◌≡◌, ◌-◌, []}
use Rattle.code_items.specs.Reading.{repeated_at, operand_at}
use Rattle.code_items.specs.Gives.{left_of}
use Rattle.code_items.specs.Parts.{front_seen}
use Rattle.code_items.proofs.operands.counted_operands.Given as goal

abbrev pub invariant-loop : goal.invariant-loop
invariant-loop l = repeated_at (operand_at (front_seen l.fn.front) l.fn.link) (l.count - l.counter) l.operands.items (left_of l.rest) ≡ repeated_at (operand_at (front_seen l.fn.front) l.fn.link) l.count [] (left_of l.fn.start)
