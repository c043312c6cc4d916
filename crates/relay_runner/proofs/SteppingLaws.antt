-- A step of a run at work, station by station.
use Rattle.std.specs.Prelude.{◌≡◌, ◌<◌, ◌≤◌, ◌∷◌, ◌++◌, ℕ, Contains, IfSome, List, [], Option, Some, drop, get_or, length, slice_get, slice_set}
use Rattle.std.specs.Option.{option_map_or}
use Rattle.std.proofs.Common.{ap, subst, sym, ◌∙◌, arith}
use Rattle.std.proofs.lemmas.List.{length-map}
use Rattle.coded_traffic.specs.Traffic.{Window, room_for}
use Rattle.generation_frame.specs.declared.frame.Packet.{Packet}
use Rattle.lif_outside.specs.LinksAccounts.{LinksAccounts, holding}
use Rattle.lif_outside.specs.Moves.{Move, took}
use Rattle.lif_outside.specs.declared.links.Flight.{Flight}
use Rattle.lif_outside.specs.declared.links.Links.{Ghosts as LinksGhosts}
use Rattle.net_model.proofs.EndLaws.{ends_below}
use Rattle.net_model.specs.Walks.{head_of}
use Rattle.net_model.specs.declared.Link.{Link}
use Rattle.node_program.specs.declared.code.Code.{Code}
use Rattle.node_stations.proofs.TableLaws.{made_at, replaced_at}
use Rattle.node_stations.specs.Delivering.{AtSink, SinkTakes}
use Rattle.node_stations.specs.Given.{IsGivenOf}
use Rattle.node_stations.specs.Passing.{FailsPassing, HasRoomAfter, Passes}
use Rattle.node_stations.specs.Shown.{IsReplaced}
use Rattle.node_stations.specs.Table.{relays_of, sinks_of}
use Rattle.node_stations.specs.declared.station.Station.{Station}
use Rattle.relay_core.specs.Core.{Delivery, RelayState}
use Rattle.relay_node.specs.Relay.{IsBegun}
use Rattle.sink_decoder.specs.Receiving as receiving
use Rattle.relay_runner.proofs.TurningLaws as turning
use Rattle.relay_runner.specs.Delivered.{packet_given}
use Rattle.relay_runner.specs.Running.{IsRunning}
use Rattle.relay_runner.specs.Stepping.{Steps, StopsStepping}

module _ {L : Type 0} (g : LinksGhosts L)
    (accounts : (made : List Move) (old new : L) → g.moves made old new
    → LinksAccounts (holding g.flying g.room g.opened_with g.repeats) g.faithful g.faults g.sent g.given made old new)
    (more_moves : (first later : List Move) (a b c : L) → g.moves first a b → g.moves later b c → g.moves (first ++ later) a c)
    {F : Type 0} (code : Code) (stations : List (Station F)) (before : L) (flight : Flight) (mid : L) (made : g.moves (took flight ∷ []) before mid)
    (packet : Packet) (value : (put : Packet) → IsGivenOf put flight → packet ≡ record put { payload = drop 12 flight.frame }) where
  module _ (pattern : ℕ) (window : Window) (run : List Delivery) (state : RelayState)
      (running : IsRunning code pattern window run (relays_of stations) (sinks_of stations) (g.flying before) state) where
    abbrev delivery : Delivery
    delivery = turning.delivery g accounts more_moves code pattern window run (relays_of stations) (sinks_of stations) state before running flight mid made

    is : packet ≡ packet_given delivery
    is = turning.packet-is g accounts more_moves code pattern window run (relays_of stations) (sinks_of stations) state before running flight mid made packet value

    -- its link is one of the network's
    pub link-below : packet.link < length code.net.links
    link-below =
        subst (λ (p : Packet). p.link < length code.net.links) (sym is)
        (turning.key g accounts more_moves code pattern window run (relays_of stations) (sinks_of stations) state before running flight mid made).of_link

    module _ (link : Link) (at_link : slice_get code.net.links packet.link ≡ Some link) where
      node-is : head_of code.net.links delivery.pair.link ≡ link.head
      node-is =
          ap (λ (p : Packet). head_of code.net.links p.link) (sym is)
          ∙ ap (λ (found : Option Link). option_map_or (λ l. l.head) found 0) at_link

      -- at its head there is a station
      pub head-below : link.head < length stations
      head-below =
          let nodes : length (relays_of stations) ≡ length code.net.nodes = running.shown.nodes.count in
          let below : head_of code.net.links packet.link < length code.net.nodes =
          (ends_below code.net.links (length code.net.nodes) packet.link code.net.network.link_ends link-below).1 in
          let same : head_of code.net.links packet.link ≡ link.head = ap (λ (found : Option Link). option_map_or (λ l. l.head) found 0) at_link in
          omega (arith, nodes, below, same, length-map stations (λ station. station.node))

      module _ (none : Station F) where
        abbrev station : Station F
        station = get_or stations link.head none

        at_relay : slice_get (relays_of stations) (head_of code.net.links delivery.pair.link) ≡ Some station.node
        at_relay = ap (slice_get (relays_of stations)) node-is ∙ made_at (λ s. s.node) stations link.head none head-below

        at_sink : slice_get (sinks_of stations) (head_of code.net.links delivery.pair.link) ≡ Some station.sink
        at_sink = ap (slice_get (sinks_of stations)) node-is ∙ made_at (λ s. s.sink) stations link.head none head-below

        -- which can take it in
        pub into : Contains station.node.plan.ins packet.link
        into =
            subst (λ (p : Packet). Contains station.node.plan.ins p.link) (sym is)
            (turning.into g accounts more_moves code pattern window run (relays_of stations) (sinks_of stations) state before running flight mid made station.node at_relay)

        pub begun : IsBegun station.node packet.generation
        begun =
            subst (λ (p : Packet). IsBegun station.node p.generation) (sym is)
            (turning.begun g accounts more_moves code pattern window run (relays_of stations) (sinks_of stations) state before running flight mid made station.node at_relay)

        pub sink_begun : IfSome station.sink (λ sink. receiving.IsBegun sink packet.generation)
        sink_begun =
            subst (λ (p : Packet). IfSome station.sink (λ sink. receiving.IsBegun sink p.generation)) (sym is)
            (turning.sink_begun g accounts more_moves code pattern window run (relays_of stations) (sinks_of stations) state before running flight mid made station.sink at_sink)

        pub room : room_for code ≤ g.room before → HasRoomAfter g mid packet station.node
        room fits =
            subst (λ (p : Packet). HasRoomAfter g mid p station.node) (sym is)
            (turning.room g accounts more_moves code pattern window run (relays_of stations) (sinks_of stations) state before running flight mid made station.node at_relay fits)

        module _ (after : L) (new : Station F) where
          node_replaced : IsReplaced (head_of code.net.links delivery.pair.link) new.node (relays_of stations) (relays_of (slice_set stations link.head new))
          node_replaced =
              subst (λ n. IsReplaced n new.node (relays_of stations) (relays_of (slice_set stations link.head new))) (sym node-is)
              (replaced_at (λ s. s.node) stations link.head new head-below)

          sink_replaced : IsReplaced (head_of code.net.links delivery.pair.link) new.sink (sinks_of stations) (sinks_of (slice_set stations link.head new))
          sink_replaced =
              subst (λ n. IsReplaced n new.sink (sinks_of stations) (sinks_of (slice_set stations link.head new))) (sym node-is)
              (replaced_at (λ s. s.sink) stations link.head new head-below)

          -- and what is put then is a step
          pub steps-at : Passes g packet mid after station.node new.node → AtSink (SinkTakes packet) station.sink new.sink
              → Steps g code pattern window run state before after (relays_of (slice_set stations link.head new)) (sinks_of (slice_set stations link.head new))
          steps-at passes takes =
              turning.steps g accounts more_moves code pattern window run (relays_of stations) (sinks_of stations) state before running flight mid made
              station.node at_relay after new.node station.sink new.sink (relays_of (slice_set stations link.head new)) (sinks_of (slice_set stations link.head new)) at_sink
              (subst (λ (p : Packet). Passes g p mid after station.node new.node) is passes)
              (subst (λ (p : Packet). AtSink (SinkTakes p) station.sink new.sink) is takes) node_replaced sink_replaced

          pub stops-at : FailsPassing g packet mid after station.node new.node → StopsStepping g code pattern window run state before after
          stops-at fails =
              turning.stops g accounts more_moves code pattern window run (relays_of stations) (sinks_of stations) state before running flight mid made
              station.node at_relay after new.node (subst (λ (p : Packet). FailsPassing g p mid after station.node new.node) is fails)
