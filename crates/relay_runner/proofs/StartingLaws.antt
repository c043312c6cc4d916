-- Stations that have begun a window, and of which the source was fed its blocks, can start it.
use Rattle.std.specs.Prelude.{◌≡◌, ◌<◌, ◌*◌, ℕ, true, List, None, Option, Some, get_or, length, slice_get}
use Rattle.std.proofs.Common.{arith, ap, eq-eqb, inl, inr, refl, subst, sym, ◌∙◌}
use Rattle.std.proofs.lemmas.Bool.{cases_eq}
use Rattle.std.proofs.lemmas.List.{length-map}
use Rattle.std.proofs.lemmas.List.FromFn.{length-map-range_with_len}
use Rattle.std.proofs.lemmas.Option.{same_Some}
use Rattle.coded_traffic.specs.Traffic.{Window}
use Rattle.generation_frame.specs.Blocks.{row_bytes}
use Rattle.linear_algebra.specs.Elements.{AreBytes}
use Rattle.node_plans.specs.Plans.{place_of}
use Rattle.node_plans.specs.declared.plan.Plan.{Plan}
use Rattle.node_program.specs.declared.code.Code.{Code}
use Rattle.node_stations.proofs.FeedingLaws.{block_of}
use Rattle.node_stations.proofs.ReadyLaws.{are_blocks, fed_all}
use Rattle.node_stations.specs.Delivering.{AtSink}
use Rattle.node_stations.specs.Fed.{AreFed}
use Rattle.node_stations.specs.Opening.{AreSinks, IsAt, IsBegunAt, demand_of}
use Rattle.node_stations.specs.Shown.{IsFedAll, IsReplaced, WorksOn}
use Rattle.node_stations.specs.Table.{ArePlanned, HaveBegun, relays_of, sinks_of}
use Rattle.node_stations.specs.declared.station.Station.{Station}
use Rattle.relay_node.specs.Relay as nodes
use Rattle.relay_node.specs.Relay.{Relay}
use Rattle.sink_decoder.specs.Receiving.{Receiver, sink_plan_of}
use Rattle.relay_runner.proofs.PlannedLaws.{at_place}
use Rattle.relay_runner.proofs.StationLaws.{node-at, node-replaced, same-sinks, with_node}
use Rattle.relay_runner.specs.Ready.{IsReadySink}
use Rattle.relay_runner.specs.Running.{AreBlocks, IsWindow, Starts, count_in, window_from}

-- a source that can be fed so many blocks of a code from a number on
pub record IsReadySource (code : Code) (from many : ℕ) (relay : Relay) : Type 0 where
  pub source : relay.plan.is_source ≡ true
  pub first : relay.first ≡ from
  pub count : relay.count ≡ many
  pub nothing : nodes.HasNothing relay
  pub size : code.rate * row_bytes ≡ relay.plan.rate * row_bytes

-- as many blocks as the window has
pub window-count : (code : Code) (first : ℕ) (blocks : List ℕ) → length (window_from code first blocks).blocks ≡ count_in code blocks
window-count code first blocks = length-map-range_with_len (block_of (code.rate * row_bytes) blocks) 0 (count_in code blocks)

-- the blocks are a window of the code
pub is-window : (code : Code) (first : ℕ) (blocks : List ℕ) → AreBlocks code first blocks → AreBytes blocks → IsWindow code (window_from code first blocks)
is-window code first blocks are bytes =
    record {
      blocks = are_blocks code first (count_in code blocks) blocks are.whole bytes;
      few_blocks = omega (arith, window-count code first blocks, are.few_blocks);
      last = omega (arith, window-count code first blocks, are.last);
    }

module _ (code : Code) (pattern first : ℕ) (blocks : List ℕ) where
  abbrev window : Window
  window = window_from code first blocks

  -- a sink with its plan that has begun the window is ready
  ready-sink : (place : Option ℕ) (before sink : Option Receiver)
      → IsAt (λ place sink. sink.plan ≡ sink_plan_of code (demand_of code pattern place)) place before
      → AtSink (IsBegunAt first (count_in code blocks)) before sink
      → IsAt (λ place sink. IsReadySink code (demand_of code pattern place) window sink) place sink
  ready-sink None before sink none begun = subst (λ (b : Option Receiver). AtSink (IsBegunAt first (count_in code blocks)) b sink) none begun
  ready-sink (Some place) before sink (there, is, plan) begun =
      let begins = subst (λ (b : Option Receiver). AtSink (IsBegunAt first (count_in code blocks)) b sink) is begun in (
        begins.0,
        begins.1,
        record {
          plan = begins.2.same_plan ∙ plan;
          first = begins.2.from_first;
          count = begins.2.has_count ∙ sym (window-count code first blocks);
          nothing = begins.2.nothing;
        },
      )

  module _ {F : Type 0} (old mid : List (Station F)) (planned : ArePlanned code pattern (relays_of old) (sinks_of old))
      (begun : HaveBegun first (count_in code blocks) (relays_of old) (relays_of mid) (sinks_of old) (sinks_of mid)) where
    -- a node works on the window
    works-begun : (node : ℕ) (relay : Relay) → slice_get (relays_of mid) node ≡ Some relay → WorksOn code pattern node window relay
    works-begun node relay at =
        let from = begun.nodes node relay at in
        record {
          plan = from.2.same_plan ∙ planned.plans node from.0 from.1;
          first = from.2.from_first;
          count = from.2.has_count ∙ sym (window-count code first blocks);
        }

    -- and nothing came to it
    nothing-begun : (node : ℕ) (relay : Relay) → slice_get (relays_of mid) node ≡ Some relay → nodes.HasNothing relay
    nothing-begun node relay at = (begun.nodes node relay at).2.nothing

    -- the sinks are ready
    sinks-ready : AreSinks code (sinks_of mid) (λ place sink. IsReadySink code (demand_of code pattern place) window sink)
    sinks-ready =
        record {
          count = begun.same_sink_count ∙ planned.receivers.count;
          at = λ node sink at.
              let from = begun.sinks node sink at in
              ready-sink (place_of code node) from.0 sink (planned.receivers.at node from.0 from.1) from.2;
        }

    module _ (place : ℕ) (station : Station F) (place_is : place ≡ code.net.source) (is : station ≡ get_or mid place station) where
      -- the source has a station
      pub source-below : place < length mid
      source-below =
          let count : length (relays_of mid) ≡ length code.net.nodes = begun.same_count ∙ planned.count in
          omega (arith, place_is, count, code.net.network.source_node, length-map mid (λ s. s.node))

      at_source : slice_get (relays_of mid) code.net.source ≡ Some station.node
      at_source = ap (slice_get (relays_of mid)) (sym place_is) ∙ node-at mid place station is source-below

      -- it works on the window
      source-works : WorksOn code pattern code.net.source window station.node
      source-works = works-begun code.net.source station.node at_source

      -- it can be fed the blocks
      pub source-ready : IsReadySource code first (count_in code blocks) station.node
      source-ready =
          let begins = (begun.nodes code.net.source station.node at_source).2 in
          record {
            source = ap (λ (plan : Plan). plan.is_source) source-works.plan ∙ eq-eqb code.net.source code.net.source refl;
            first = begins.from_first;
            count = begins.has_count;
            nothing = begins.nothing;
            size = ap (λ (plan : Plan). plan.rate * row_bytes) (sym source-works.plan);
          }

      -- the stations then
      abbrev fed_stations : Relay → List (Station F)
      fed_stations = with_node mid place station is

      -- Where it is fed the blocks, the stations can start.
      pub can-start : pattern < length code.net.patterns → AreBlocks code first blocks → AreBytes blocks → (fed : Relay) → AreFed window station.node fed
          → Starts code pattern window (relays_of (fed_stations fed)) (sinks_of (fed_stations fed))
      can-start pattern_is are bytes fed feeds =
          record {
            pattern_is = pattern_is;
            is_window = is-window code first blocks are bytes;
            ready = record {
              count = replaced.count ∙ begun.same_count ∙ planned.count;
              works = λ node relay at. elim (cases_eq node code.net.source) [
                | inl here ↦
                    subst (λ (r : Relay). WorksOn code pattern node window r) (found node relay here at)
                    (subst (λ (n : ℕ). WorksOn code pattern n window fed) (sym here)
                    (record {
                      plan = feeds.work.plan ∙ source-works.plan;
                      first = feeds.work.first ∙ source-works.first;
                      count = feeds.work.count ∙ source-works.count;
                    }))
                | inr other ↦ works-begun node relay (sym (replaced.others node other) ∙ at)
              ];
              source = λ relay at. subst (IsFedAll code pattern window) (same_Some fed relay (sym replaced.at ∙ at)) fed_blocks;
              nothing = λ node relay other at. nothing-begun node relay (sym (replaced.others node other) ∙ at);
              receivers =
                  subst
                  (λ (sinks : List (Option Receiver)). AreSinks code sinks (λ place sink. IsReadySink code (demand_of code pattern place) window sink))
                  (sym (same-sinks mid place station is fed)) sinks-ready;
            };
          }
        where
          replaced : IsReplaced code.net.source fed (relays_of mid) (relays_of (fed_stations fed))
          replaced =
              subst (λ (n : ℕ). IsReplaced n fed (relays_of mid) (relays_of (fed_stations fed))) place_is
              (node-replaced mid place station is source-below fed)

          found : (node : ℕ) (relay : Relay) → node ≡ code.net.source → slice_get (relays_of (fed_stations fed)) node ≡ Some relay → fed ≡ relay
          found node relay here at = same_Some fed relay (sym replaced.at ∙ ap (slice_get (relays_of (fed_stations fed))) (sym here) ∙ at)

          fed_blocks : IsFedAll code pattern window fed
          fed_blocks =
              fed_all code pattern window station.node fed source-works.plan source-works.first source-works.count
              (nothing-begun code.net.source station.node at_source) (is-window code first blocks are bytes).blocks feeds

-- stations that can start have their plans
pub start-planned : (code : Code) (pattern : ℕ) (started : Window) (relays : List Relay) (sinks : List (Option Receiver))
    → Starts code pattern started relays sinks → ArePlanned code pattern relays sinks
start-planned code pattern started relays sinks starts =
    record {
      count = starts.ready.count;
      plans = λ node relay at. (starts.ready.works node relay at).plan;
      receivers = record {
        count = starts.ready.receivers.count;
        at = λ node sink at. at_place _ _ (λ place there ready. ready.plan) (place_of code node) sink (starts.ready.receivers.at node sink at);
      };
    }

module _ (code seen : Code) (same : seen ≡ code) where
  -- so many blocks are as many as the window has
  pub seen-count : (first : ℕ) (blocks : List ℕ) (count : ℕ) → count ≡ count_in seen blocks → count ≡ length (window_from code first blocks).blocks
  seen-count first blocks count counted = counted ∙ ap (λ (code : Code). count_in code blocks) same ∙ sym (window-count code first blocks)

  -- Stations of which all were written over by some that can start can start too.
  pub made-start : {F : Type 0} (pattern first : ℕ) (blocks : List ℕ) (old lent new made : List (Station F)) → lent ≡ old → made ≡ new
      → pattern < length code.net.patterns → ArePlanned code pattern (relays_of old) (sinks_of old)
      → (starts : (pattern : ℕ) → pattern < length seen.net.patterns → ArePlanned seen pattern (relays_of lent) (sinks_of lent)
      → Starts seen pattern (window_from seen first blocks) (relays_of new) (sinks_of new))
      → Starts code pattern (window_from code first blocks) (relays_of made) (sinks_of made)
  made-start {F} pattern first blocks old lent new made value back pattern_is planned starts =
      let of_code = subst (λ (code : Code). (pattern : ℕ) → pattern < length code.net.patterns → ArePlanned code pattern (relays_of lent) (sinks_of lent)
      → Starts code pattern (window_from code first blocks) (relays_of new) (sinks_of new)) same starts in
      let are = subst (λ (stations : List (Station F)). ArePlanned code pattern (relays_of stations) (sinks_of stations)) (sym value) planned in
      subst (λ (stations : List (Station F)). Starts code pattern (window_from code first blocks) (relays_of stations) (sinks_of stations)) (sym back)
      (of_code pattern pattern_is are)
