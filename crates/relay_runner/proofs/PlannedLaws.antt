-- Nodes and sinks that stand at a state of a run have their plans, and so they do after a step.
use Rattle.std.specs.Prelude.{◌≡◌, ℕ, List, None, Option, Some}
use Rattle.std.proofs.Common.{refl, subst, sym}
use Rattle.coded_traffic.specs.Traffic.{Window}
use Rattle.lif_outside.specs.declared.links.Flight.{Flight}
use Rattle.lif_outside.specs.declared.links.Links.{Ghosts as LinksGhosts}
use Rattle.node_plans.specs.Plans.{place_of}
use Rattle.node_program.specs.declared.code.Code.{Code}
use Rattle.node_stations.specs.Opening.{IsAt}
use Rattle.node_stations.specs.Table.{ArePlanned, relays_of, sinks_of}
use Rattle.node_stations.specs.declared.station.Station.{Station}
use Rattle.relay_core.specs.Core.{Delivery, RelayState}
use Rattle.relay_node.specs.Relay.{Relay}
use Rattle.sink_decoder.specs.Receiving.{Receiver}
use Rattle.relay_runner.specs.Running.{IsRunning, StandAt}
use Rattle.relay_runner.specs.Stepping.{Steps}
use Rattle.relay_runner.specs.declared.Turn.{Turn}
use Rattle.relay_runner.specs.declared.Turn.TheVariants.{Moved, Quiet}

-- what holds of the sink at a place where something else does
pub at_place : (P Q : ℕ → Receiver → Type 0) → ((place : ℕ) (sink : Receiver) → P place sink → Q place sink)
    → (place : Option ℕ) (sink : Option Receiver) → IsAt P place sink → IsAt Q place sink
at_place P Q then None sink is = is
at_place P Q then (Some place) sink is = (is.0, is.1, then place is.0 is.2)

-- they have their plans
pub planned : (code : Code) (pattern : ℕ) (window : Window) (run : List Delivery) (relays : List Relay) (sinks : List (Option Receiver)) (flying : List Flight)
    (state : RelayState) → IsRunning code pattern window run relays sinks flying state → ArePlanned code pattern relays sinks
planned code pattern window run relays sinks flying state running =
    record {
      count = running.shown.nodes.count;
      plans = λ node relay at. (running.shown.nodes.shows node relay at).works.plan;
      receivers = record {
        count = running.shown.receivers.count;
        at = λ node sink at. at_place _ _ (λ place there shows. shows.plan) (place_of code node) sink (running.shown.receivers.at node sink at);
      };
    }

-- so do those of stations after a step, and where none was made they stay as they were
pub planned-after : {F L : Type 0} (g : LinksGhosts L) (code : Code) (pattern : ℕ) (before after : L) (old new : List (Station F)) (turn : Turn)
    → StandAt code pattern (relays_of old) (sinks_of old) (g.flying before)
    → (turn ≡ Moved → (window : Window) (run : List Delivery) (state : RelayState)
    → IsRunning code pattern window run (relays_of old) (sinks_of old) (g.flying before) state
    → Steps g code pattern window run state before after (relays_of new) (sinks_of new))
    → (turn ≡ Quiet → new ≡ old) → ArePlanned code pattern (relays_of new) (sinks_of new)
planned-after g code pattern before after old new Moved stand moved quiet =
    let steps = moved refl stand.window stand.run stand.state stand.running in
    planned code pattern stand.window _ (relays_of new) (sinks_of new) (g.flying after) steps.next steps.running
planned-after {F} g code pattern before after old new Quiet stand moved quiet =
    subst (λ (stations : List (Station F)). ArePlanned code pattern (relays_of stations) (sinks_of stations)) (sym (quiet refl))
    (planned code pattern stand.window stand.run (relays_of old) (sinks_of old) (g.flying before) stand.state stand.running)
