-- Blocks that are carried over links, told by the calls on the links alone, whatever these gave and in whatever order.
use Rattle.std.specs.Prelude.{◌≡◌, ◌<◌, ◌≤◌, ◌+◌, ◌↔◌, ℕ, All, Bool, true, false, IsPermutation, List, [], ◌∷◌, ◌++◌, count_by, length, map}
use Rattle.std.specs.List.{list_any}
use Rattle.coded_traffic.specs.CodeBlocks.{IsBlockOf}
use Rattle.coded_traffic.specs.Traffic.{IsKey, Key, Window, block_at, traffic_of}
use Rattle.generation_frame.specs.declared.frame.Packet.{Packet}
use Rattle.lif_outside.specs.Moves.{Move, flights_given, is_fault, is_open, pairs_put, took_none}
use Rattle.lif_outside.specs.declared.links.Links.{Ghosts as LinksGhosts}
use Rattle.node_program.specs.declared.code.Code.{Code}
use Rattle.node_stations.specs.Decoded.{decoded_of}
use Rattle.node_stations.specs.Opening.{demand_of}
use Rattle.node_stations.specs.Putting.{flight_of}
use Rattle.relay_core.specs.Core.{Delivery, RelayState, has_key, held_of, times_of}
use Rattle.relay_core.specs.Runs.{AreRelayed}
use Rattle.relay_runner.specs.Carrying.{finds_nothing}
use Rattle.relay_runner.specs.Delivered.{packet_given}
use Rattle.relay_runner.specs.Running.{IsRunning, Running}
use Rattle.relay_runner.specs.Showing.{packets_in}
use Rattle.relay_runner.specs.Stepping.{ArePut}

-- the packets that links gave, in order; of each key the first one counts
abbrev pub packets_given : List Move → List Packet
packets_given moves = packets_in (flights_given moves)

-- Numbered blocks of a code were carried, by links that are faithful or not. One packet was put for each key of the traffic, each came, and
-- no other did; what was put on a link that leaves the source is of the traffic, and on another the sum of what came. By
-- faithful links the pairs put are the traffic, and what came decodes to the blocks at each sink.
pub record IsCarried (faithful : Bool) (code : Code) (pattern : ℕ) (window : Window) (moves : List Move) : Type 0 where
  pub are_blocks : All (IsBlockOf code) window.blocks
  -- the links weren't opened, no call failed, the last take found nothing, and at most one did for each block
  pub closed : list_any is_open moves ≡ false
  pub well : list_any is_fault moves ≡ false
  pub front : List Move
  pub ended : moves ≡ front ++ took_none ∷ []
  pub few_empty : count_by finds_nothing moves ≤ length window.blocks
  -- what was put, and what came
  pub packets : List Packet
  pub puts : IsPermutation (map flight_of packets) (pairs_put moves)
  pub once : (key : Key) → times_of key packets ≤ 1
  pub all : (key : Key) → (has_key key packets ≡ true) ↔ IsKey code pattern window key
  pub came : (key : Key) → (has_key key (packets_given moves) ≡ true) ↔ IsKey code pattern window key
  pub relayed : AreRelayed code pattern window (packets_given moves) packets
  -- by faithful links
  pub traffic : faithful ≡ true → IsPermutation (traffic_of code pattern window) (pairs_put moves)
  pub decoded : faithful ≡ true → (place generation : ℕ) → place < length code.net.sinks → window.first ≤ generation
      → generation < window.first + length window.blocks
      → decoded_of code (demand_of code pattern place) (packets_given moves) generation ≡ block_at window generation

-- A call on the links failed before numbered blocks of a code were carried, and it is the last one. The pairs put are of the traffic by
-- their keys, none twice, and by faithful links they are of the traffic. Whatever the links gave, what was put on a link that
-- leaves the source is of the traffic, and on another the sum of what came.
pub record IsStopped (faithful : Bool) (code : Code) (pattern : ℕ) (window : Window) (moves : List Move) : Type 0 where
  pub are_blocks : All (IsBlockOf code) window.blocks
  pub closed : list_any is_open moves ≡ false
  pub front : List Move
  pub fault : Move
  pub ended : moves ≡ front ++ fault ∷ []
  pub well : list_any is_fault front ≡ false
  pub fails : is_fault fault ≡ true
  pub packets : List Packet
  pub puts : IsPermutation (map flight_of packets) (pairs_put moves)
  pub put : ArePut code pattern window (faithful ≡ true) packets
  pub relayed : AreRelayed code pattern window (packets_given moves) packets

-- A runner that has carried a window by these calls: its sinks hold what came first of each key.
pub record HasCarriedBy (runner : Running) (moves : List Move) : Type 0 where
  pub window : Window
  pub run : List Delivery
  pub state : RelayState
  pub same_first : runner.first ≡ window.first
  pub same_count : runner.count ≡ length window.blocks
  pub running : IsRunning runner.code runner.pattern window run runner.relays runner.sinks [] state
  pub held : state.held ≡ held_of run []
  pub gives : flights_given moves ≡ map (λ delivery. flight_of (packet_given delivery)) run

-- A window was carried over links.
pub record CarriesWindow {L : Type 0} (g : LinksGhosts L) (window : Window) (before after : L) (runner : Running) : Type 0 where
  pub moves : List Move
  pub calls : g.moves moves before after
  pub carried : IsCarried (g.faithful before) runner.code runner.pattern window moves
  pub by : HasCarriedBy runner moves
