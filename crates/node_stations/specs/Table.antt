-- The stations of a code, by what they show: the nodes, and the sinks at them.
use Rattle.std.specs.Prelude.{◌≡◌, ℕ, List, Option, Some, length, map, slice_get}
use Rattle.node_plans.specs.Plans.{plan_of}
use Rattle.node_program.specs.declared.code.Code.{Code}
use Rattle.relay_node.specs.Relay.{HasNothing, Relay}
use Rattle.sink_decoder.specs.Receiving.{Receiver, sink_plan_of}
use Rattle.node_stations.specs.Delivering.{AtSink}
use Rattle.node_stations.specs.Opening.{AreSinks, IsBegunAt, IsOpened, demand_of}
use Rattle.node_stations.specs.declared.station.Station.{Station}

-- the nodes of some stations, and the sinks at them
abbrev pub relays_of : {F : Type 0} → List (Station F) → List Relay
relays_of stations = map (λ station. station.node) stations

abbrev pub sinks_of : {F : Type 0} → List (Station F) → List (Option Receiver)
sinks_of stations = map (λ station. station.sink) stations

-- there is one for each node of a code, and each node and each sink has its plan
pub record ArePlanned (code : Code) (pattern : ℕ) (relays : List Relay) (sinks : List (Option Receiver)) : Type 0 where
  pub count : length relays ≡ length code.net.nodes
  pub plans : (node : ℕ) (relay : Relay) → slice_get relays node ≡ Some relay → relay.plan ≡ plan_of code pattern node
  pub receivers : AreSinks code sinks (λ place sink. sink.plan ≡ sink_plan_of code (demand_of code pattern place))

-- the node of a number, before any generation: nothing came, and nothing was given
pub record IsOpenedNode (code : Code) (pattern node : ℕ) (relay : Relay) : Type 0 where
  pub plan : relay.plan ≡ plan_of code pattern node
  pub first : relay.first ≡ 0
  pub count : relay.count ≡ 0
  pub nothing : HasNothing relay

-- there is one for each node of a code, and each node and each sink is as it is before any generation
pub record AreOpened (code : Code) (pattern : ℕ) (relays : List Relay) (sinks : List (Option Receiver)) : Type 0 where
  pub count : length relays ≡ length code.net.nodes
  pub nodes : (node : ℕ) (relay : Relay) → slice_get relays node ≡ Some relay → IsOpenedNode code pattern node relay
  pub receivers : AreSinks code sinks (IsOpened code pattern)

-- a node that has begun these generations, of which nothing came and nothing was given
pub record HasBegun (first count : ℕ) (old new : Relay) : Type 0 where
  pub same_plan : new.plan ≡ old.plan
  pub from_first : new.first ≡ first
  pub has_count : new.count ≡ count
  pub nothing : HasNothing new

-- all nodes and all sinks have
pub record HaveBegun (first count : ℕ) (old new : List Relay) (old_sinks new_sinks : List (Option Receiver)) : Type 0 where
  pub same_count : length new ≡ length old
  pub nodes : (node : ℕ) (relay : Relay) → slice_get new node ≡ Some relay
      → (before : Relay) × (slice_get old node ≡ Some before) × HasBegun first count before relay
  pub same_sink_count : length new_sinks ≡ length old_sinks
  pub sinks : (node : ℕ) (sink : Option Receiver) → slice_get new_sinks node ≡ Some sink
      → (before : Option Receiver) × (slice_get old_sinks node ≡ Some before) × AtSink (IsBegunAt first count) before sink
