-- The live links of a code at each node, as they are listed one after another.
use Rattle.std.specs.Prelude.{◌≡◌, ◌<◌, ◌==◌, ◌&&◌, ◌||◌, ℕ, Bool, true, false, List, [], Vec, filter, length, map, slice_index, slice_index_or}
use Rattle.std.specs.Global.{Global}
use Rattle.std.specs.List.{range_with_len}
use Rattle.net_model.specs.Walks.{head_of, leaves_source, tail_of}
use Rattle.node_program.specs.Value.{operands_at}
use Rattle.node_program.specs.declared.Operand.{Operand}
use Rattle.node_program.specs.declared.code.Code.{Code}
use Rattle.node_plans.specs.declared.listing.Listed.{Listed}

-- the items of each of some lists
abbrev pub items_of : List (Vec ℕ Global) → List (List ℕ)
items_of lists = map (λ list. list.items) lists

-- whether a link is live, by a table of the live links
abbrev pub is_live_by : List Bool → ℕ → Bool
is_live_by live link = slice_index_or live link false

-- the live links before a number of which a node is the end
abbrev pub ending_at : List Bool → (ℕ → ℕ) → ℕ → ℕ → List ℕ
ending_at live end bound node = filter (λ link. is_live_by live link && (end link == node)) (range_with_len 0 bound)

-- for each node a list of those
pub record AreEnds (live : List Bool) (end : ℕ → ℕ) (nodes bound : ℕ) (lists : List (List ℕ)) : Type 0 where
  pub count : length lists ≡ nodes
  pub each : (node : ℕ) → node < nodes → slice_index_or lists node [] ≡ ending_at live end bound node

-- the live links before a number are listed, at their heads and at their tails, and each has its place
pub record AreListed (code : Code) (live : List Bool) (bound : ℕ) (listed : Listed) : Type 0 where
  pub ins : AreEnds live (head_of code.net.links) (length code.net.nodes) bound (items_of listed.ins.items)
  pub outs : AreEnds live (tail_of code.net.links) (length code.net.nodes) bound (items_of listed.outs.items)
  pub place_count : length listed.places.items ≡ length code.net.links
  pub place : (link : ℕ) → link < bound → is_live_by live link ≡ true
      → slice_index listed.places.items link
      ≡ length (ending_at live (head_of code.net.links) link (head_of code.net.links link))

-- the operands of a link that are source rows or live links, by a table of the live links
abbrev pub operands_by : Code → List Bool → ℕ → List Operand
operands_by code live link =
    filter (λ operand. leaves_source code.net link || is_live_by live operand.from) (operands_at code.operands link)
