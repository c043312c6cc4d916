-- Nodes at work, the sinks at them and what flies on links, beside a state of the core.
use Rattle.std.specs.Prelude.{◌≡◌, ℕ, All, IsPermutation, List, Option, map}
use Rattle.coded_traffic.specs.Traffic.{Window}
use Rattle.generation_frame.specs.Frames.{packet_in}
use Rattle.generation_frame.specs.declared.frame.Packet.{Packet}
use Rattle.lif_outside.specs.declared.links.Flight.{Flight}
use Rattle.node_program.specs.declared.code.Code.{Code}
use Rattle.node_stations.specs.Opening.{AreSinks, demand_of}
use Rattle.node_stations.specs.Putting.{flight_of}
use Rattle.node_stations.specs.Shown.{Shows, ShowsSink}
use Rattle.relay_core.specs.Core.{RelayState}
use Rattle.relay_node.specs.Relay.{Relay}
use Rattle.sink_decoder.specs.Receiving.{Receiver}

-- the packets whose frames fly
abbrev pub packets_in : List Flight → List Packet
packets_in flying = map (λ flight. packet_in flight.frame) flying

-- a pair of a packet's link and its frame
abbrev pub IsPair : Flight → Type 0
IsPair flight = flight_of (packet_in flight.frame) ≡ flight

-- all sinks show what is held
abbrev pub ShowSinks : Code → ℕ → Window → List (Option Receiver) → List Packet → Type 0
ShowSinks code pattern window sinks held =
    AreSinks code sinks (λ place sink. ShowsSink code (demand_of code pattern place) window sink held)

-- All nodes show what is held and what was sent, all sinks show what is held, and what flies on the links is what flies in the
-- state.
pub record IsShown (code : Code) (pattern : ℕ) (window : Window) (relays : List Relay) (sinks : List (Option Receiver)) (flying : List Flight) (state : RelayState) : Type 0 where
  pub nodes : Shows code pattern window relays state.held state.sent
  pub receivers : ShowSinks code pattern window sinks state.held
  pub flies : IsPermutation state.flying (packets_in flying)
  pub pairs : All IsPair flying
