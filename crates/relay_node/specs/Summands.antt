-- What the links out of a node add up, and how it lies in one list.
use Rattle.std.specs.Prelude.{◌<◌, ◌≤◌, ◌+◌, ◌-◌, ℕ, List, [], drop, length, map, slice_index, slice_index_or, take}
use Rattle.std.specs.List.{range_with_len}
use Rattle.node_plans.specs.Plans.{input_place}
use Rattle.node_plans.specs.declared.plan.Plan.{Plan}
use Rattle.node_program.specs.declared.Operand.{Operand}
use Rattle.relay_node.specs.declared.summands.Summand.{Summand}

-- what an operand adds to a sum: the place of the input that it names, and its coefficient
abbrev pub summand_of : Plan → Operand → Summand
summand_of plan operand = record { input = input_place plan operand.from; times = operand.times }

-- the operands of a sum, and its summands
abbrev pub operands_at : Plan → ℕ → List Operand
operands_at plan sum = slice_index_or plan.operands sum []

abbrev pub summands_at : Plan → ℕ → List Summand
summands_at plan sum = map (summand_of plan) (operands_at plan sum)

-- those of each link out of the node
abbrev pub summands_of : Plan → List (List Summand)
summands_of plan = map (map (summand_of plan)) plan.operands

-- A part of a list, by where each part starts: behind the starts stands where the last part ends. And all parts.
abbrev pub part_at : List Summand → List ℕ → ℕ → List Summand
part_at all starts part =
    take (slice_index starts (part + 1) - slice_index starts part) (drop (slice_index starts part) all)

abbrev pub parts_of : List Summand → List ℕ → List (List Summand)
parts_of all starts = map (part_at all starts) (range_with_len 0 (length starts - 1))

-- each part starts where the one before it ends, or behind that, and within the list
pub record AreStarts (all : List Summand) (starts : List ℕ) : Type 0 where
  pub within : (part : ℕ) → slice_index starts part ≤ length all
  pub rising : (part : ℕ) → part + 1 < length starts → slice_index starts part ≤ slice_index starts (part + 1)
