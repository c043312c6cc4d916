-- Nodes and sinks that have begun a window, to which nothing came but its blocks, at the source.
use Rattle.std.specs.Prelude.{◌≡◌, ◌≢◌, ℕ, List, Option, Some, length, slice_get}
use Rattle.coded_traffic.specs.Traffic.{Window}
use Rattle.node_program.specs.declared.code.Code.{Code}
use Rattle.node_stations.specs.Opening.{AreSinks, demand_of}
use Rattle.node_stations.specs.Shown.{IsFedAll, WorksOn}
use Rattle.relay_node.specs.Relay as nodes
use Rattle.relay_node.specs.Relay.{Relay}
use Rattle.sink_decoder.specs.Receiving.{HasNothing, Receiver, sink_plan_of}

-- a sink that has begun a window, and to which nothing came
pub record IsReadySink (code : Code) (demand : ℕ) (window : Window) (sink : Receiver) : Type 0 where
  pub plan : sink.plan ≡ sink_plan_of code demand
  pub first : sink.first ≡ window.first
  pub count : sink.count ≡ length window.blocks
  pub nothing : HasNothing sink

-- all have begun it; the source was fed its blocks and gave nothing yet, and to no other node and no sink anything came
pub record AreReady (code : Code) (pattern : ℕ) (window : Window) (relays : List Relay) (sinks : List (Option Receiver)) : Type 0 where
  pub count : length relays ≡ length code.net.nodes
  pub works : (node : ℕ) (relay : Relay) → slice_get relays node ≡ Some relay → WorksOn code pattern node window relay
  pub source : (relay : Relay) → slice_get relays code.net.source ≡ Some relay → IsFedAll code pattern window relay
  pub nothing : (node : ℕ) (relay : Relay) → node ≢ code.net.source → slice_get relays node ≡ Some relay → nodes.HasNothing relay
  pub receivers : AreSinks code sinks (λ place sink. IsReadySink code (demand_of code pattern place) window sink)
