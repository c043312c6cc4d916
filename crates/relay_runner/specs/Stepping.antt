-- A step of a run at work: a pair is taken and given to the node at its link's head, and what the node gives then is put.
use Rattle.std.specs.Prelude.{◌≡◌, ◌≤◌, ◌++◌, ◌∷◌, ℕ, false, true, List, [], Option, map}
use Rattle.std.specs.List.{list_any}
use Rattle.coded_traffic.specs.Traffic.{IsKey, Key, Window}
use Rattle.generation_frame.specs.declared.frame.Packet.{Packet}
use Rattle.lif_outside.specs.Moves.{Move, flights_given, is_fault, is_open, pairs_put, took}
use Rattle.lif_outside.specs.declared.links.Links.{Ghosts as LinksGhosts}
use Rattle.node_program.specs.declared.code.Code.{Code}
use Rattle.node_stations.specs.Putting.{flight_of, puts_of}
use Rattle.relay_core.specs.Core.{Delivery, IsFaithful, IsStep, RelayState, has_key, times_of}
use Rattle.relay_core.specs.Runs.{AreOfTraffic, AreRelayed}
use Rattle.relay_node.specs.Relay.{Relay}
use Rattle.sink_decoder.specs.Receiving.{Receiver}
use Rattle.relay_runner.specs.Delivered.{packet_given}
use Rattle.relay_runner.specs.Running.{IsRunning}
use Rattle.relay_runner.specs.Showing.{packets_in}

-- A step was made, with the payload that the links gave, which by faithful links is that of the pair. What was taken and put
-- is what the step says.
pub record Steps {L : Type 0} (g : LinksGhosts L) (code : Code) (pattern : ℕ) (window : Window) (run : List Delivery) (state : RelayState) (before after : L) (relays : List Relay) (sinks : List (Option Receiver)) : Type 0 where
  pub delivery : Delivery
  pub next : RelayState
  pub more : List Packet
  pub step : IsStep code pattern delivery state next
  pub sent : next.sent ≡ more ++ state.sent
  pub running : IsRunning code pattern window (run ++ delivery ∷ []) relays sinks (g.flying after) next
  pub as_put : g.faithful before ≡ true → delivery.payload ≡ delivery.pair.payload
  pub calls : g.moves (took (flight_of (packet_given delivery)) ∷ puts_of more) before after

-- Packets that were put: their keys are of the traffic, none twice, and where all payloads were given as they were put, they are
-- of the traffic.
pub record ArePut (code : Code) (pattern : ℕ) (window : Window) (GivenAsPut : Type 0) (packets : List Packet) : Type 0 where
  pub once : (key : Key) → times_of key packets ≤ 1
  pub keys : (key : Key) → has_key key packets ≡ true → IsKey code pattern window key
  pub payloads : GivenAsPut → AreOfTraffic code pattern window packets

-- A call failed, and it is the last one. The pairs put before it are some of those of a step, beside what was sent. Whatever the
-- links gave, all those packets come from the blocks or are sums of what came first, in the run and by these calls.
pub record StopsStepping {L : Type 0} (g : LinksGhosts L) (code : Code) (pattern : ℕ) (window : Window) (run : List Delivery) (state : RelayState) (before after : L) : Type 0 where
  pub moves : List Move
  pub more : List Packet
  pub calls : g.moves moves before after
  pub closed : list_any is_open moves ≡ false
  pub front : List Move
  pub fault : Move
  pub ended : moves ≡ front ++ fault ∷ []
  pub well : list_any is_fault front ≡ false
  pub fails : is_fault fault ≡ true
  pub puts : pairs_put moves ≡ map flight_of more
  pub put : ArePut code pattern window ((g.faithful before ≡ true) × IsFaithful run) (more ++ state.sent)
  pub relayed : AreRelayed code pattern window (map packet_given run ++ packets_in (flights_given moves)) (more ++ state.sent)
