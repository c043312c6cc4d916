-- Nodes and sinks before any generation stand at the opening state of a window without blocks.
use Rattle.std.specs.Prelude.{◌<◌, ◌+◌, ◌≤◌, ℕ, List, [], Option, length}
use Rattle.std.proofs.Common.{arith, refl}
use Rattle.std.proofs.lemmas.List.Elements.{All-nil}
use Rattle.std.proofs.lemmas.List.Sorted.{IsPermutation-refl}
use Rattle.coded_traffic.specs.CodeBlocks.{IsBlockOf}
use Rattle.coded_traffic.specs.Traffic.{Window}
use Rattle.node_plans.specs.Plans.{place_of}
use Rattle.node_program.specs.declared.code.Code.{Code}
use Rattle.node_stations.specs.Opening.{IsOpened, demand_of}
use Rattle.node_stations.specs.Shown.{ShowsSink}
use Rattle.node_stations.specs.Table.{AreOpened}
use Rattle.relay_core.specs.Core.{opening}
use Rattle.relay_node.specs.Relay.{Relay}
use Rattle.sink_decoder.specs.Receiving.{Receiver}
use Rattle.relay_runner.proofs.PlannedLaws.{at_place}
use Rattle.relay_runner.specs.Running.{StandAt}
use Rattle.relay_runner.specs.Showing.{IsPair}

-- no number is in no range
none_in : (first number : ℕ) → first ≤ number → number < first + 0 → ⊥
none_in first number from below = omega (arith, from, below)

module _ (code : Code) (pattern : ℕ) where
  -- no blocks
  abbrev none : Window
  none = record { first = 0; blocks = [] }

  -- a sink before any generation shows that nothing is held
  shows : (place : ℕ) (sink : Receiver) → IsOpened code pattern place sink → ShowsSink code (demand_of code pattern place) none sink []
  shows place sink is = record {
    plan = is.plan;
    first = is.first;
    count = is.count;
    has = λ key wanted. absurd (none_in 0 key.generation wanted.begun wanted.numbered);
    bytes = λ key wanted held. absurd (none_in 0 key.generation wanted.begun wanted.numbered);
  }

  pub stands : (relays : List Relay) (sinks : List (Option Receiver)) → pattern < length code.net.patterns
      → AreOpened code pattern relays sinks → StandAt code pattern relays sinks []
  stands relays sinks pattern_is are = record {
    window = none;
    run = [];
    state = opening code pattern none;
    running = record {
      pattern_is = pattern_is;
      is_window = record { blocks = All-nil (IsBlockOf code); few_blocks = omega arith; last = omega arith };
      is_run = refl;
      shown = record {
        nodes = record {
          count = are.count;
          shows = λ node relay found.
              let is = are.nodes node relay found in
              record {
                works = record { plan = is.plan; first = is.first; count = is.count };
                has = λ key into. absurd (none_in 0 key.generation into.begun into.numbered);
                bytes = λ key into held. absurd (none_in 0 key.generation into.begun into.numbered);
              };
          shown = λ node relay found key out.
              let is = are.nodes node relay found in
              absurd (omega (arith, is.first, is.count, out.begun.from_first, out.begun.to_last));
        };
        receivers = record {
          count = are.receivers.count;
          at = λ node sink found.
              at_place (IsOpened code pattern) (λ place sink. ShowsSink code (demand_of code pattern place) none sink []) shows
              (place_of code node) sink (are.receivers.at node sink found);
        };
        flies = IsPermutation-refl [];
        pairs = All-nil IsPair;
      };
    };
  }
