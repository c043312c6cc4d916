-- A window that is carried: a run from the opening state to one where nothing flies.
use Rattle.std.specs.Prelude.{◌≡◌, ◌++◌, ◌∷◌, ℕ, Bool, false, true, IsPermutation, List, [], Option, map}
use Rattle.std.specs.List.{list_any}
use Rattle.coded_traffic.specs.Traffic.{Window, traffic_of}
use Rattle.lif_outside.specs.Moves.{Move, flights_given, is_fault, is_open, pairs_put, took_none}
use Rattle.lif_outside.specs.declared.links.Links.{Ghosts as LinksGhosts}
use Rattle.node_program.specs.declared.code.Code.{Code}
use Rattle.node_stations.specs.Putting.{flight_of}
use Rattle.relay_core.specs.Core.{Delivery, IsFaithful, RelayState, held_of}
use Rattle.relay_core.specs.Runs.{AreRelayed, Reaches}
use Rattle.relay_node.specs.Relay.{Relay}
use Rattle.sink_decoder.specs.Receiving.{Receiver}
use Rattle.relay_runner.specs.Delivered.{packet_given}
use Rattle.relay_runner.specs.Running.{IsRunning}

-- a take that found nothing
abbrev pub finds_nothing : Move → Bool
finds_nothing took_none = true
finds_nothing move = false

-- Calls on links that are a run of a window: they weren't opened and no call failed, all that was sent was put, and what was given
-- are its deliveries, by faithful links with the payloads that were put.
pub record IsUnderway {L : Type 0} (g : LinksGhosts L) (code : Code) (pattern : ℕ) (window : Window) (before after : L) (relays : List Relay) (sinks : List (Option Receiver)) : Type 0 where
  pub moves : List Move
  pub run : List Delivery
  pub state : RelayState
  pub running : IsRunning code pattern window run relays sinks (g.flying after) state
  pub calls : g.moves moves before after
  pub closed : list_any is_open moves ≡ false
  pub well : list_any is_fault moves ≡ false
  pub puts : IsPermutation (map flight_of state.sent) (pairs_put moves)
  pub gives : flights_given moves ≡ map (λ delivery. flight_of (packet_given delivery)) run
  pub as_put : g.faithful before ≡ true → IsFaithful run

-- A window was carried: the last take found nothing, and none before it; nothing flies any more, so all of the traffic was sent. Whatever the links
-- gave, what is held are the payloads given first, and what was sent comes from the blocks or is the sum of payloads held.
pub record Carries {L : Type 0} (g : LinksGhosts L) (code : Code) (pattern : ℕ) (window : Window) (before after : L) (relays : List Relay) (sinks : List (Option Receiver)) : Type 0 where
  pub carried : IsUnderway g code pattern window before after relays sinks
  pub front : List Move
  pub ended : carried.moves ≡ front ++ took_none ∷ []
  pub found : list_any finds_nothing front ≡ false
  pub quiet : g.flying after ≡ []
  pub reaches : Reaches code pattern window carried.run carried.state
  pub held : carried.state.held ≡ held_of carried.run []
  pub relayed : AreRelayed code pattern window carried.state.held carried.state.sent
  pub traffic : g.faithful before ≡ true → IsPermutation (traffic_of code pattern window) (pairs_put carried.moves)
