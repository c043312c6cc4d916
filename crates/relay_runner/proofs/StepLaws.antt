-- A pair that links gave, and what is put then, are a step of the core, after which all is shown as before it.
use Rattle.std.specs.Prelude.{◌≡◌, ◌≤◌, ◌<◌, ◌+◌, ◌^◌, ◌++◌, ◌∷◌, ℕ, Bool, true, false, All, Contains, IsPermutation, List, Option, Some, if◌then◌else◌, length, slice_get}
use Rattle.std.proofs.Common.{◌∙◌, get_or, inl, inr, refl, subst, sym}
use Rattle.std.proofs.lemmas.Bool.{or_cases, or_left}
use Rattle.std.proofs.lemmas.List.Elements.{All-contains, All-weaker}
use Rattle.std.proofs.lemmas.List.Folds.{list_any_at}
use Rattle.std.proofs.lemmas.List.Sorted.{All-permutation, Contains-permutation, IsPermutation-append_right, IsPermutation-cons, IsPermutation-middle, IsPermutation-refl, IsPermutation-sym, IsPermutation-trans}
use Rattle.coded_traffic.specs.Traffic.{IsKey, Key, Window, is_same_key, key_of}
use Rattle.generation_frame.specs.Frames.{Fits}
use Rattle.generation_frame.specs.declared.frame.Packet.{Packet}
use Rattle.lif_outside.specs.Moves.{FollowMoves, InFlight}
use Rattle.lif_outside.specs.declared.links.Flight.{Flight}
use Rattle.net_model.specs.Walks.{head_of}
use Rattle.node_program.specs.declared.code.Code.{Code}
use Rattle.node_stations.proofs.StateLaws.{shows-after, step-made}
use Rattle.node_stations.specs.Delivering.{AtSink, SinkTakes}
use Rattle.node_stations.specs.Putting.{puts_of}
use Rattle.node_stations.specs.Shown.{IsReplaced, ShowsHeld, ShowsSent}
use Rattle.relay_core.proofs.Kept.{Kept, held-is}
use Rattle.relay_core.proofs.PacketLaws.{has_key-held_after, itself, same_key}
use Rattle.relay_core.proofs.StepLaws.{operands-are}
use Rattle.relay_core.specs.Core.{AreSent, Delivery, IsStep, RelayState, has_key, held_after}
use Rattle.relay_node.specs.Relay.{Relay}
use Rattle.sink_decoder.specs.Receiving.{Receiver}
use Rattle.relay_runner.proofs.FlyingLaws.{PutsFly, fits-key, puts-fly}
use Rattle.relay_runner.proofs.SinkStepLaws.{show_sinks-after}
use Rattle.relay_runner.specs.Delivered.{IsDelivered, packet_given}
use Rattle.relay_runner.specs.Passing.{Comes}
use Rattle.relay_runner.specs.Showing.{IsShown, packets_in}

-- the state after a delivery, by what was sent then and what flies
abbrev pub next_of : Delivery → RelayState → List Packet → List Flight → RelayState
next_of delivery state more flying =
    record { flying = packets_in flying; held = held_after delivery state.held; sent = more ++ state.sent }

-- the core steps to that state, and it is shown
pub record Steps (code : Code) (pattern : ℕ) (window : Window) (delivery : Delivery) (state : RelayState) (more : List Packet)
    (relays : List Relay) (sinks : List (Option Receiver)) (flying : List Flight) : Type 0 where
  pub step : IsStep code pattern delivery state (next_of delivery state more flying)
  pub shown : IsShown code pattern window relays sinks flying (next_of delivery state more flying)

-- a packet's key is among those of packets that it is one of
pub has_key-at : (packets : List Packet) (k : ℕ) (d : Packet) → k < length packets → has_key (key_of (get_or packets k d)) packets ≡ true
has_key-at packets k d within =
    let key = key_of (get_or packets k d) in
    list_any_at (λ packet. is_same_key (key_of packet) key) packets k d within (itself key)

module _ (code : Code) (pattern : ℕ) (window : Window) (short : window.first + length window.blocks ≤ 2 ^ 32)
    (state : RelayState) (kept : Kept code pattern window state) where
  abbrev OfKey : Packet → Type 0
  OfKey packet = IsKey code pattern window (key_of packet)

  -- what flies is of the traffic
  pub flying-are : (flying : List Flight) → IsPermutation state.flying (packets_in flying)
      → All (λ packet. IsKey code pattern window (key_of packet)) (packets_in flying)
  flying-are flying flies =
      All-permutation OfKey state.flying (packets_in flying) flies (λ k d within.
      let key = key_of (get_or state.flying k d) in
      kept.of_traffic key (kept.sent_is key ∙ or_left (has_key key state.flying) (has_key key state.held) (has_key-at state.flying k d within)))

  -- so it fits into frames
  pub flying-fit : (flying : List Flight) → IsPermutation state.flying (packets_in flying) → All Fits (packets_in flying)
  flying-fit flying flies = All-weaker OfKey Fits (λ packet is. fits-key code pattern window packet short is) (packets_in flying) (flying-are flying flies)

  module _ (faithful : Bool) (flight : Flight) (delivery : Delivery) where
    -- a pair that was given is of the traffic
    pub delivered-key : (old new : List Flight) → IsPermutation state.flying (packets_in old) → IsDelivered faithful flight delivery old new
        → IsKey code pattern window (key_of delivery.pair)
    delivered-key old new flies delivered = All-contains OfKey (packets_in old) delivery.pair (flying-are old flies) delivered.flew

    -- and its packet comes to the node at its link's head
    pub delivered-comes : (old new : List Flight) (relays : List Relay) (sinks : List (Option Receiver)) (relay : Relay)
        → IsShown code pattern window relays sinks old state → IsDelivered faithful flight delivery old new
        → slice_get relays (head_of code.net.links delivery.pair.link) ≡ Some relay
        → Comes code pattern (head_of code.net.links delivery.pair.link) window delivery state.held state.sent (packet_given delivery) relay
    delivered-comes old new relays sinks relay shown delivered at =
        let node = head_of code.net.links delivery.pair.link in
        record {
          is = refl;
          of_traffic = delivered-key old new shown.flies delivered;
          to_node = refl;
          held_are = held-is code pattern window state kept;
          shows = shown.nodes.shows node relay at;
          shown = shown.nodes.shown node relay at;
        }

  -- what is held after a delivery of the traffic is of the traffic
  now-are : (delivery : Delivery) → IsKey code pattern window (key_of delivery.pair)
      → (key : Key) → has_key key (held_after delivery state.held) ≡ true → IsKey code pattern window key
  now-are delivery is key has =
      let either = sym (has_key-held_after key delivery state.held) ∙ has in
      elim (or_cases (is_same_key (key_of delivery.pair) key) (has_key key state.held) either) [
        | inl same ↦ subst (IsKey code pattern window) (same_key (key_of delivery.pair) key same) is
        | inr there ↦ held-is code pattern window state kept key there
      ]

  -- so what is sent then fits into frames
  sent-fit : (delivery : Delivery) (node : ℕ) (more : List Packet) → IsKey code pattern window (key_of delivery.pair)
      → AreSent code pattern node (held_after delivery state.held) state.sent more → All Fits more
  sent-fit delivery node more is sends k d within =
      let packet = get_or more k d in
      let may = (sends.keys (key_of packet)).0 (has_key-at more k d within) in
      fits-key code pattern window packet short
      (operands-are code pattern window (held_after delivery state.held) (now-are delivery is) (key_of packet) may.live may.operands)

  -- what flew and what is sent flies then, but for the pair where it leaves
  flies-then : (faithful : Bool) (flight : Flight) (delivery : Delivery) (old mid new : List Flight) (more : List Packet)
      → IsPermutation state.flying (packets_in old) → IsDelivered faithful flight delivery old mid → PutsFly more mid new
      → IsPermutation (more ++ state.flying) (if delivery.stays then packets_in new else delivery.pair ∷ packets_in new)
  flies-then faithful flight delivery old mid new more flies delivered puts =
      by delivery.stays (IsPermutation-trans state.flying (packets_in old) _ flies delivered.flies)
    where
      by : (stays : Bool) → IsPermutation state.flying (if stays then packets_in mid else delivery.pair ∷ packets_in mid)
          → IsPermutation (more ++ state.flying) (if stays then packets_in new else delivery.pair ∷ packets_in new)
      by true left =
          IsPermutation-trans (more ++ state.flying) (more ++ packets_in mid) (packets_in new)
          (IsPermutation-append_right more state.flying (packets_in mid) left) puts.flies
      by false left =
          IsPermutation-trans (more ++ state.flying) (more ++ delivery.pair ∷ packets_in mid) (delivery.pair ∷ packets_in new)
          (IsPermutation-append_right more state.flying (delivery.pair ∷ packets_in mid) left)
          (IsPermutation-trans (more ++ delivery.pair ∷ packets_in mid) (delivery.pair ∷ (more ++ packets_in mid)) (delivery.pair ∷ packets_in new)
          (IsPermutation-middle more delivery.pair (packets_in mid))
          (IsPermutation-cons delivery.pair (more ++ packets_in mid) (packets_in new) puts.flies))

  -- A pair that flew was given, the node at its head and the sink there took its packet, and what the node sends then was put.
  -- The pattern is one of the network's, so that each sink shows a demand of its own.
  pub stepped : (below : pattern < length code.net.patterns) (faithful : Bool) (flight : Flight) (delivery : Delivery) (old mid new : InFlight)
      (relays relays_after : List Relay) (sinks sinks_after : List (Option Receiver)) (relay : Relay) (sink_before sink : Option Receiver) (more : List Packet)
      → IsShown code pattern window relays sinks old.flying state → IsDelivered faithful flight delivery old.flying mid.flying
      → slice_get sinks (head_of code.net.links delivery.pair.link) ≡ Some sink_before
      → AreSent code pattern (head_of code.net.links delivery.pair.link) (held_after delivery state.held) state.sent more
      → ShowsHeld code pattern (head_of code.net.links delivery.pair.link) window relay (held_after delivery state.held)
      → ShowsSent relay (more ++ state.sent)
      → AtSink (SinkTakes (packet_given delivery)) sink_before sink
      → IsReplaced (head_of code.net.links delivery.pair.link) relay relays relays_after
      → IsReplaced (head_of code.net.links delivery.pair.link) sink sinks sinks_after
      → FollowMoves faithful (puts_of more) mid new
      → Steps code pattern window delivery state more relays_after sinks_after new.flying
  stepped below faithful flight delivery old mid new relays relays_after sinks sinks_after relay sink_before sink more
      shown delivered at sends shows shows_sent takes node_replaced sink_replaced put =
      let node = head_of code.net.links delivery.pair.link in
      let is = delivered-key faithful flight delivery old.flying mid.flying shown.flies delivered in
      let puts = puts-fly faithful more mid new (sent-fit delivery node more is sends) put delivered.pairs in
      let flew : Contains state.flying delivery.pair =
      Contains-permutation (packets_in old.flying) state.flying delivery.pair
      (IsPermutation-sym state.flying (packets_in old.flying) shown.flies) delivered.flew in
      record {
        step =
            step-made code pattern window delivery state.held state.sent more node refl sends state.flying (packets_in new.flying) flew
            (flies-then faithful flight delivery old.flying mid.flying new.flying more shown.flies delivered puts);
        shown = record {
          nodes = shows-after code pattern window delivery state.held state.sent more node refl sends relays relays_after relay shown.nodes node_replaced shows shows_sent;
          receivers = show_sinks-after code pattern window delivery state.held below is sinks sinks_after sink_before sink shown.receivers at takes sink_replaced;
          flies = IsPermutation-refl (packets_in new.flying);
          pairs = puts.pairs;
        };
      }
