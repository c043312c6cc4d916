-- A payload as far as it is added up.
use Rattle.std.specs.Prelude.{◌≡◌, ◌<◌, ℕ, All, List, length, map, take}
use Rattle.due_sums.specs.Waiting.{Waiting, input_at}
use Rattle.gf_tables.specs.Product.{size_of}
use Rattle.gf_tables.specs.declared.kind.FieldKind.{FieldKind}
use Rattle.generation_frame.specs.Blocks.{piece_bytes, pieces}
use Rattle.linear_algebra.specs.Elements.{bytes_of_row, elements_of}
use Rattle.linear_algebra.specs.Rows.{combination}
use Rattle.coded_traffic.specs.Traffic.{piece_width, sum_of}
use Rattle.node_plans.specs.Plans.{input_place}
use Rattle.node_plans.specs.declared.plan.Plan.{Plan}
use Rattle.relay_node.specs.Summands.{operands_at}
use Rattle.relay_node.specs.declared.summands.Summand.{Summand}

abbrev pub coefficients_of : List Summand → List ℕ
coefficients_of summands = map (λ summand. summand.times) summands

-- what came of each summand, as rows of elements
abbrev pub rows_of : FieldKind → List Summand → (Summand → List ℕ) → List (List ℕ)
rows_of field summands came = map (λ summand. elements_of field (came summand)) summands

-- a payload is the sum of the first summands
pub record IsSummed (field : FieldKind) (summands : List Summand) (came : Summand → List ℕ) (count : ℕ) (payload : List ℕ) : Type 0 where
  pub width : length payload ≡ piece_bytes
  pub sum : elements_of field payload
      ≡ combination field (piece_width field) (take count (coefficients_of summands)) (take count (rows_of field summands came))

-- summands of inputs that wait, by elements of the field, and a piece of a generation
pub record CanSum (field : FieldKind) (summands : List Summand) (sums : Waiting) (generation piece : ℕ) : Type 0 where
  pub elements : All (λ summand. summand.times < size_of field) summands
  pub inputs : All (λ summand. summand.input < sums.inputs) summands
  pub in_generations : generation < length sums.held
  pub in_pieces : piece < pieces

-- what came of a summand, and the sum of summands
abbrev pub came_of : Waiting → ℕ → ℕ → Summand → List ℕ
came_of sums generation piece summand = input_at sums generation summand.input piece

abbrev pub total_of : FieldKind → List Summand → (Summand → List ℕ) → List ℕ
total_of field summands came =
    bytes_of_row field (combination field (piece_width field) (coefficients_of summands) (rows_of field summands came))

-- the same by the operands of a plan
abbrev pub sum_at : Plan → Waiting → ℕ → ℕ → ℕ → List ℕ
sum_at plan sums generation sum piece =
    sum_of plan.field (operands_at plan sum) (λ operand. input_at sums generation (input_place plan operand.from) piece)
