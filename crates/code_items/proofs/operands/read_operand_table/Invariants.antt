use Rattle.std.proofs.Common.{◌≡◌, [], drop}
use Rattle.code_items.specs.Reading.{each_after_at, operands_at_link}
use Rattle.code_items.specs.Gives.{left_of}
use Rattle.code_items.specs.Parts.{front_seen}
use Rattle.code_items.proofs.operands.read_operand_table.Given as goal

abbrev pub invariant-loop-link : goal.invariant-loop-link
invariant-loop-link l = each_after_at (λ _. operands_at_link (front_seen l.fn.front)) l.table.items (drop l.link-index l.links) (left_of l.rest) ≡ each_after_at (λ _. operands_at_link (front_seen l.fn.front)) [] l.fn.front.links (left_of l.fn.start)
