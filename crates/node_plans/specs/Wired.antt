-- The live links of a code at each node, their places, and the places of nodes among the sinks.
use Rattle.std.specs.Prelude.{◌≡◌, ◌<◌, ◌==◌, ℕ, Bool, true, false, Contains, List, [], Option, Some, None, length, slice_get, slice_index, slice_index_or}
use Rattle.std.specs.List.{position_or_len}
use Rattle.net_model.specs.Walks.{head_of}
use Rattle.node_program.specs.CodeValue.{is_live_in}
use Rattle.node_program.specs.declared.code.Code.{Code}
use Rattle.node_plans.specs.Plans.{input_place, ins_of, outs_of, place_of}
use Rattle.node_plans.specs.declared.plan.Plan.{Plan}

-- which links are live, those into each node and out of it, and the place of each among those into its head
pub record Wired : Type 0 where
  pub live : List Bool
  pub ins : List (List ℕ)
  pub outs : List (List ℕ)
  pub places : List ℕ
  -- for each node its place among the sinks, where it is one
  pub sinks : List (Option ℕ)

-- the wiring of a code under a pattern
pub record IsWiringOf (code : Code) (pattern : ℕ) (wired : Wired) : Type 0 where
  pub live_count : length wired.live ≡ length code.net.links
  pub live : (link : ℕ) → link < length code.net.links → slice_get wired.live link ≡ Some (is_live_in code pattern link)
  pub ins_count : length wired.ins ≡ length code.net.nodes
  pub ins : (node : ℕ) → node < length code.net.nodes → slice_index_or wired.ins node [] ≡ ins_of code pattern node
  pub outs_count : length wired.outs ≡ length code.net.nodes
  pub outs : (node : ℕ) → node < length code.net.nodes → slice_index_or wired.outs node [] ≡ outs_of code pattern node
  pub place_count : length wired.places ≡ length code.net.links
  pub place : (link : ℕ) → link < length code.net.links → is_live_in code pattern link ≡ true
      → slice_index wired.places link
      ≡ position_or_len (λ one. one == link) (ins_of code pattern (head_of code.net.links link))
  pub sink_count : length wired.sinks ≡ length code.net.nodes
  pub sink : (node : ℕ) → node < length code.net.nodes
      → slice_index_or wired.sinks node None ≡ place_of code node

-- a table has the place of each link into a node that isn't the source
pub record HasPlaces (plan : Plan) (places : List ℕ) : Type 0 where
  pub within : plan.is_source ≡ false → (link : ℕ) → Contains plan.ins link → link < length places
  pub place : plan.is_source ≡ false → (link : ℕ) → Contains plan.ins link → slice_index places link ≡ input_place plan link
