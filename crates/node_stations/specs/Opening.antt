-- Sinks as they are opened and begun.
use Rattle.std.specs.Prelude.{◌≡◌, ℕ, List, Option, Some, None, length, slice_get}
use Rattle.failure_patterns.specs.Demands.{number_of}
use Rattle.node_plans.specs.Plans.{place_of}
use Rattle.node_program.specs.declared.code.Code.{Code}
use Rattle.sink_decoder.specs.Receiving.{HasNothing, Receiver, sink_plan_of}

-- the number of the demand of a sink
abbrev pub demand_of : Code → ℕ → ℕ → ℕ
demand_of code pattern place = number_of code.net (record { sink = place; pattern = pattern })

-- at a node with a place among the sinks there is one of which this holds, and at another node there is none
abbrev pub IsAt : (ℕ → Receiver → Type 0) → Option ℕ → Option Receiver → Type 0
IsAt P None sink = sink ≡ None
IsAt P (Some place) sink = (there : Receiver) × (sink ≡ Some there) × P place there

-- of the sinks at all nodes this holds, by their places
pub record AreSinks (code : Code) (sinks : List (Option Receiver)) (P : ℕ → Receiver → Type 0) : Type 0 where
  pub count : length sinks ≡ length code.net.nodes
  pub at : (node : ℕ) (sink : Option Receiver) → slice_get sinks node ≡ Some sink → IsAt P (place_of code node) sink

-- the sink of a place, before any generation
pub record IsOpened (code : Code) (pattern place : ℕ) (sink : Receiver) : Type 0 where
  pub plan : sink.plan ≡ sink_plan_of code (demand_of code pattern place)
  pub first : sink.first ≡ 0
  pub count : sink.count ≡ 0

-- the sink at a node, where it is one
abbrev pub IsSinkOf : Code → ℕ → ℕ → Option Receiver → Type 0
IsSinkOf code pattern node sink = IsAt (IsOpened code pattern) (place_of code node) sink

-- a sink that has begun these generations, of which nothing came
pub record IsBegunAt (first count : ℕ) (old new : Receiver) : Type 0 where
  pub same_plan : new.plan ≡ old.plan
  pub from_first : new.first ≡ first
  pub has_count : new.count ≡ count
  pub nothing : HasNothing new
