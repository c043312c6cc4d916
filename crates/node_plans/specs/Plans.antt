-- What a node does of a code under a pattern: the live links into it and out of it, and what each of those adds up.
use Rattle.std.specs.Prelude.{◌≡◌, ◌<◌, ◌≤◌, ◌==◌, ◌&&◌, ℕ, true, All, IsTrue, List, [], Option, filter, if◌then◌else◌, length, map, position, slice_index_or}
use Rattle.std.specs.List.{position_or_len, range_with_len}
use Rattle.gf_tables.specs.Product.{size_of}
use Rattle.net_model.specs.Limits.{highest_rate}
use Rattle.net_model.specs.Lists.{is_rising}
use Rattle.net_model.specs.Walks.{head_of, tail_of}
use Rattle.node_program.specs.CodeValue.{is_live_in}
use Rattle.node_program.specs.declared.Operand.{Operand}
use Rattle.node_program.specs.declared.code.Code.{Code}
use Rattle.coded_traffic.specs.Traffic.{live_operands}
use Rattle.node_plans.specs.declared.plan.Plan.{Plan}

-- the live links into a node, rising
abbrev pub ins_of : Code → ℕ → ℕ → List ℕ
ins_of code pattern node =
    filter (λ link. is_live_in code pattern link && (head_of code.net.links link == node))
    (range_with_len 0 (length code.net.links))

-- the live links out of it, rising
abbrev pub outs_of : Code → ℕ → ℕ → List ℕ
outs_of code pattern node =
    filter (λ link. is_live_in code pattern link && (tail_of code.net.links link == node))
    (range_with_len 0 (length code.net.links))

-- the place of a node among the sinks, where it is one
abbrev pub place_of : Code → ℕ → Option ℕ
place_of code node = position (λ one. one == node) code.net.sinks

-- the plan of a node
abbrev pub plan_of : Code → ℕ → ℕ → Plan
plan_of code pattern node =
    record {
      field = code.field;
      rate = code.rate;
      is_source = node == code.net.source;
      ins = ins_of code pattern node;
      outs = outs_of code pattern node;
      operands = map (live_operands code pattern) (outs_of code pattern node);
    }

-- how many inputs a node has: the rows of a block at the source, and else the live links into it
abbrev pub input_count : Plan → ℕ
input_count plan = if plan.is_source then plan.rate else length plan.ins

-- the place among the inputs of what an operand names
abbrev pub input_place : Plan → ℕ → ℕ
input_place plan from = if plan.is_source then from else position_or_len (λ link. link == from) plan.ins

-- the place of a link among those out of the node, and its operands
abbrev pub out_place : Plan → ℕ → ℕ
out_place plan link = position_or_len (λ out. out == link) plan.outs

abbrev pub operands_of : Plan → ℕ → List Operand
operands_of plan link = slice_index_or plan.operands (out_place plan link) []

-- for each link out of the node the places of its inputs
abbrev pub sums_of : Plan → List (List ℕ)
sums_of plan = map (λ operands. map (λ operand. input_place plan operand.from) operands) plan.operands

-- what every plan of a code is
pub record IsPlan (plan : Plan) : Type 0 where
  pub some_rate : 1 ≤ plan.rate
  pub low_rate : plan.rate ≤ highest_rate
  pub ins_rise : IsTrue (is_rising plan.ins)
  pub outs_rise : IsTrue (is_rising plan.outs)
  pub source : plan.is_source ≡ true → plan.ins ≡ []
  pub each_out : length plan.operands ≡ length plan.outs
  pub coefficients : All (All (λ operand. operand.times < size_of plan.field)) plan.operands
  pub inputs : All (All (λ operand. input_place plan operand.from < input_count plan)) plan.operands
