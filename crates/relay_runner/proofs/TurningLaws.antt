-- A pair that links gave, and the station that its packet comes to.
use Rattle.std.specs.Prelude.{◌≡◌, ◌≤◌, ◌∷◌, ◌++◌, ℕ, Bool, true, false, Contains, IfSome, List, [], None, Option, Some, drop, if◌then◌else◌, length, slice_get, take}
use Rattle.std.proofs.Common.{arith, ap, refl, subst, sym, ◌∙◌}
use Rattle.std.proofs.lemmas.List.{length-map}
use Rattle.std.proofs.lemmas.List.Sorted.{Contains-permutation, IsPermutation-sym, length_permutation}
use Rattle.coded_traffic.specs.Traffic.{IsKey, Window, key_of, room_for}
use Rattle.generation_frame.specs.Frames.{packet_in}
use Rattle.generation_frame.specs.declared.frame.Packet.{Packet}
use Rattle.lif_outside.specs.LinksAccounts.{LinksAccounts, holding}
use Rattle.lif_outside.specs.Moves.{FollowMoves, InFlight, IsTaken, Move, took}
use Rattle.lif_outside.specs.declared.links.Flight.{Flight}
use Rattle.lif_outside.specs.declared.links.Links.{Ghosts as LinksGhosts}
use Rattle.net_model.specs.Walks.{head_of}
use Rattle.node_plans.specs.Plans.{place_of}
use Rattle.node_program.specs.declared.code.Code.{Code}
use Rattle.node_stations.proofs.DeliveryLaws as deliveries
use Rattle.node_stations.specs.Delivering.{AtSink, SinkTakes}
use Rattle.node_stations.specs.Given.{IsGivenOf, IsOfPut}
use Rattle.node_stations.specs.Opening.{IsAt, demand_of}
use Rattle.node_stations.specs.Passing.{FailsPassing, HasRoomAfter, Passes}
use Rattle.node_stations.specs.Putting.{flight_of, puts_of}
use Rattle.node_stations.specs.Shown.{IsReplaced, ShowsSink}
use Rattle.relay_core.proofs.Kept.{Kept}
use Rattle.relay_core.proofs.RunLaws.{reached-kept, run-more}
use Rattle.relay_core.specs.Core.{Delivery, RelayState}
use Rattle.relay_node.specs.Relay.{IsBegun, Relay}
use Rattle.sink_decoder.specs.Receiving as receiving
use Rattle.sink_decoder.specs.Receiving.{Receiver}
use Rattle.relay_runner.proofs.CountLaws.{room-after}
use Rattle.relay_runner.proofs.FlyingLaws.{fits-key, taken-delivers}
use Rattle.relay_runner.proofs.PassingLaws.{comes-into, passes_on, stops_passing}
use Rattle.relay_runner.proofs.StepLaws as laws
use Rattle.relay_runner.proofs.StepLaws.{delivered-comes, delivered-key, flying-fit, stepped}
use Rattle.relay_runner.proofs.StoppingLaws.{stops-put}
use Rattle.relay_runner.specs.Delivered.{IsDelivered, packet_given}
use Rattle.relay_runner.specs.Passing.{Comes}
use Rattle.relay_runner.specs.Running.{IsRunning}
use Rattle.relay_runner.specs.Showing.{packets_in}
use Rattle.relay_runner.specs.Stepping.{Steps, StopsStepping}

module _ {L : Type 0} (g : LinksGhosts L)
    (accounts : (made : List Move) (old new : L) → g.moves made old new
    → LinksAccounts (holding g.flying g.room g.opened_with g.repeats) g.faithful g.faults g.sent g.given made old new)
    (more_moves : (first later : List Move) (a b c : L) → g.moves first a b → g.moves later b c → g.moves (first ++ later) a c) where
  abbrev holds : L → InFlight
  holds links = holding g.flying g.room g.opened_with g.repeats links

  -- a take, as a change of what flies
  taken : (flight : Flight) (before mid : L) → g.moves (took flight ∷ []) before mid → IsTaken (g.faithful before) flight (holds before) (holds mid)
  taken flight before mid made =
      let follows = (accounts (took flight ∷ []) before mid made).follows in
      subst (λ (held : InFlight). IsTaken (g.faithful before) flight (holds before) held) (sym follows.2) follows.1

  module _ (code : Code) (pattern : ℕ) (window : Window) (run : List Delivery) (relays : List Relay) (sinks : List (Option Receiver)) (state : RelayState)
      (before : L) (running : IsRunning code pattern window run relays sinks (g.flying before) state)
      (flight : Flight) (mid : L) (made : g.moves (took flight ∷ []) before mid) where
    kept : Kept code pattern window state
    kept = reached-kept code pattern window run state running.is_run

    -- it is a delivery
    pub found : (delivery : Delivery) × IsDelivered (g.faithful before) flight delivery (g.flying before) (g.flying mid)
    found =
        taken-delivers (g.faithful before) flight (holds before) (holds mid) running.shown.pairs
        (flying-fit code pattern window running.is_window.last state kept (g.flying before) running.shown.flies)
        (taken flight before mid made)

    abbrev pub delivery : Delivery
    delivery = found.0

    pub delivered : IsDelivered (g.faithful before) flight delivery (g.flying before) (g.flying mid)
    delivered = found.1

    -- of a key of the traffic
    pub key : IsKey code pattern window (key_of delivery.pair)
    key =
        delivered-key code pattern window running.is_window.last state kept (g.faithful before) flight delivery (g.flying before) (g.flying mid)
        running.shown.flies delivered

    -- the flight begins as the pair did
    given_of : IsGivenOf delivery.pair flight
    given_of = record {
      fits = fits-key code pattern window delivery.pair running.is_window.last key;
      same_link = ap (λ (f : Flight). f.link) delivered.given;
      same_address = ap (λ (f : Flight). take 12 f.frame) delivered.given;
    }

    pub is_of_put : IsOfPut flight
    is_of_put = record { packet = delivery.pair; given = given_of }

    -- so the packet read of it is the one given
    pub packet-is : (packet : Packet) → ((put : Packet) → IsGivenOf put flight → packet ≡ record put { payload = drop 12 flight.frame })
        → packet ≡ packet_given delivery
    packet-is packet value =
        value delivery.pair given_of ∙ ap (λ (f : Flight). record delivery.pair { payload = drop 12 f.frame }) delivered.given

    abbrev node : ℕ
    node = head_of code.net.links delivery.pair.link

    module _ (relay : Relay) (at : slice_get relays node ≡ Some relay) where
      -- it comes to the station at its link's head
      comes : Comes code pattern node window delivery state.held state.sent (packet_given delivery) relay
      comes =
          delivered-comes code pattern window running.is_window.last state kept (g.faithful before) flight delivery (g.flying before) (g.flying mid)
          relays sinks relay running.shown delivered at

      pub into : Contains relay.plan.ins delivery.pair.link
      into =
          deliveries.link_in code pattern node window relay (key_of delivery.pair) comes.shows.works
          (comes-into code pattern node window delivery state.held state.sent (packet_given delivery) relay comes)

      pub begun : IsBegun relay delivery.pair.generation
      begun =
          deliveries.begun code pattern node window relay (key_of delivery.pair) comes.shows.works
          (comes-into code pattern node window delivery state.held state.sent (packet_given delivery) relay comes)

      -- no more flies than did
      few-fly : length (g.flying mid) ≤ length state.flying
      few-fly = omega (
        arith,
        length-map (g.flying mid) (λ flight. packet_in flight.frame),
        by delivery.stays (length_permutation (packets_in (g.flying before)) (if delivery.stays then packets_in (g.flying mid) else delivery.pair ∷ packets_in (g.flying mid)) delivered.flies),
        length_permutation state.flying (packets_in (g.flying before)) running.shown.flies,
      )
        where
          by : (stays : Bool) → length (if stays then packets_in (g.flying mid) else delivery.pair ∷ packets_in (g.flying mid)) ≡ length (packets_in (g.flying before))
              → length (packets_in (g.flying mid)) ≤ length (packets_in (g.flying before))
          by true e = omega (arith, e)
          by false e = omega (arith, e)

      -- and there is room for what the node gives
      pub room : room_for code ≤ g.room before → HasRoomAfter g mid (packet_given delivery) relay
      room fits after takes packets new gives = omega (
        arith,
        fits,
        few-fly,
        (taken flight before mid made).as_opened.same_room,
        room-after code pattern node window run state running.is_run running.is_window.few_blocks delivery (packet_given delivery) relay after new packets comes takes gives,
      )

      module _ (after : L) (new : Relay) where
        -- what is put then is a step
        pub steps : (sink_before sink : Option Receiver) (relays_after : List Relay) (sinks_after : List (Option Receiver))
            → slice_get sinks node ≡ Some sink_before → Passes g (packet_given delivery) mid after relay new
            → AtSink (SinkTakes (packet_given delivery)) sink_before sink
            → IsReplaced node new relays relays_after → IsReplaced node sink sinks sinks_after
            → Steps g code pattern window run state before after relays_after sinks_after
        steps sink_before sink relays_after sinks_after at_sink passes takes replaced sink_replaced =
            let on = passes_on code pattern node window delivery state.held state.sent (packet_given delivery) relay comes passes.mid passes.takes g mid after new passes.puts in
            let puts : FollowMoves (g.faithful before) (puts_of on.more) (holds mid) (holds after) =
            subst (λ faithful. FollowMoves faithful (puts_of on.more) (holds mid) (holds after)) (accounts (took flight ∷ []) before mid made).same_faithful
            (accounts (puts_of on.more) mid after on.calls).follows in
            let made_step : laws.Steps code pattern window delivery state on.more relays_after sinks_after (g.flying after) =
            stepped code pattern window running.is_window.last state kept running.pattern_is (g.faithful before) flight delivery (holds before) (holds mid) (holds after)
            relays relays_after sinks sinks_after new sink_before sink on.more running.shown delivered at_sink on.sends on.shows on.shown takes replaced sink_replaced puts in
            record {
              delivery = delivery;
              next = laws.next_of delivery state on.more (g.flying after);
              more = on.more;
              step = made_step.step;
              sent = refl;
              running = record {
                pattern_is = running.pattern_is;
                is_window = running.is_window;
                is_run = run-more code pattern run delivery _ state _ running.is_run made_step.step;
                shown = made_step.shown;
              };
              as_put = delivered.as_put;
              calls = more_moves (took (flight_of (packet_given delivery)) ∷ []) (puts_of on.more) before mid after
                  (subst (λ (f : Flight). g.moves (took f ∷ []) before mid) delivered.given made) on.calls;
            }

        -- and where a put fails it stops
        pub stops : FailsPassing g (packet_given delivery) mid after relay new → StopsStepping g code pattern window run state before after
        stops fails =
            let passing = stops_passing code pattern node window delivery state.held state.sent (packet_given delivery) relay comes fails.mid fails.takes g mid after new fails.stops in
            stops-put g code pattern window run relays sinks (g.flying before) state running before after delivery key flew delivered.as_put mid passing
            (subst (λ (f : Flight). g.moves (took f ∷ []) before mid) delivered.given made) more_moves
          where
            flew : Contains state.flying delivery.pair
            flew = Contains-permutation (packets_in (g.flying before)) state.flying delivery.pair
                (IsPermutation-sym state.flying (packets_in (g.flying before)) running.shown.flies) delivered.flew

    -- a sink at the node has begun the generation
    pub sink_begun : (sink : Option Receiver) → slice_get sinks node ≡ Some sink → IfSome sink (λ s. receiving.IsBegun s delivery.pair.generation)
    sink_begun sink at = by (place_of code node) sink (running.shown.receivers.at node sink at)
      where
        by : (place : Option ℕ) (sink : Option Receiver) → IsAt (λ place sink. ShowsSink code (demand_of code pattern place) window sink state.held) place sink → IfSome sink (λ s. receiving.IsBegun s delivery.pair.generation)
        by None sink none = subst (λ (s : Option Receiver). IfSome s (λ s. receiving.IsBegun s delivery.pair.generation)) (sym none) tt
        by (Some place) sink is =
            subst (λ (s : Option Receiver). IfSome s (λ s. receiving.IsBegun s delivery.pair.generation)) (sym is.1)
            (record { from_first = omega (arith, is.2.first, key.begun); to_last = omega (arith, is.2.first, is.2.count, key.numbered) })
