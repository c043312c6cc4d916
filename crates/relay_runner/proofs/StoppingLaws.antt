-- What is put when a call fails: packets of the traffic by their keys, none twice, that come from the blocks or are sums of what
-- came first.
use Rattle.std.specs.Prelude.{◌≡◌, ◌<◌, ◌≤◌, ◌++◌, ◌∷◌, ℕ, true, false, All, Contains, IsPermutation, List, [], Option, Some, length, map, slice_get}
use Rattle.std.proofs.Common.{arith, get_or, inl, inr, refl, sym, ap, subst, ◌∙◌}
use Rattle.std.proofs.lemmas.Bool.{both_ways, cases_Bool, or_cases, or_left, or_right}
use Rattle.std.proofs.lemmas.List.{append-nil, map-append}
use Rattle.std.proofs.lemmas.List.Elements.{All-append, All-cons, All-contains, All-head, All-nil, All-tail}
use Rattle.std.proofs.lemmas.List.Folds.{list_any_at}
use Rattle.std.proofs.lemmas.List.Sorted.{IsPermutation-refl}
use Rattle.coded_traffic.specs.Traffic.{IsKey, Key, Window, is_same_key, key_of, packet_of}
use Rattle.generation_frame.specs.declared.frame.Packet.{Packet}
use Rattle.lif_outside.proofs.OpenLaws.{still-closed}
use Rattle.lif_outside.specs.Calls.{MakesMoves}
use Rattle.lif_outside.specs.Moves.{Move, flights_given, pairs_put, put_failed, take_failed, took}
use Rattle.lif_outside.specs.declared.links.Flight.{Flight}
use Rattle.lif_outside.specs.declared.links.Links.{Ghosts as LinksGhosts}
use Rattle.net_model.specs.Walks.{head_of, leaves_source}
use Rattle.node_program.specs.declared.code.Code.{Code}
use Rattle.node_stations.proofs.PuttingLaws.{puts-closed}
use Rattle.node_stations.proofs.SourceLaws.{given, given-key}
use Rattle.node_stations.specs.Putting.{flight_of, puts_of}
use Rattle.node_stations.specs.Shown.{GivesEach, IsFedAll}
use Rattle.relay_core.proofs.FaithfulLaws.{summed-is}
use Rattle.relay_core.proofs.Kept.{Kept}
use Rattle.relay_core.proofs.PacketLaws.{has_key-append, has_key-held_after, itself, same_key, times-none, times_of-append}
use Rattle.relay_core.proofs.RelayedLaws.{relayed-after}
use Rattle.relay_core.proofs.RunLaws.{reached-kept, run-reaches}
use Rattle.relay_core.proofs.StepLaws.{operands-are}
use Rattle.relay_core.specs.Core.{Delivery, IsFaithful, MaySend, RelayState, has_key, held_after, summed, times_of}
use Rattle.relay_core.specs.Runs.{AreOfTraffic, AreRelayed, IsOfTraffic}
use Rattle.relay_node.specs.Relay.{Relay}
use Rattle.sink_decoder.specs.Receiving.{Receiver}
use Rattle.relay_runner.proofs.CameLaws.{after-came, relayed-told, sent-told}
use Rattle.relay_runner.proofs.FlyingLaws.{fits-key, packet_in-frame_of}
use Rattle.relay_runner.proofs.StepLaws.{has_key-at}
use Rattle.relay_runner.proofs.WellLaws.{puts-well}
use Rattle.relay_runner.specs.Carried.{IsStopped, packets_given}
use Rattle.relay_runner.specs.Delivered.{packet_given}
use Rattle.relay_runner.specs.Passing.{StopsPassing}
use Rattle.relay_runner.specs.Running.{IsRunning, Starts}
use Rattle.relay_runner.specs.Showing.{packets_in}
use Rattle.relay_runner.specs.Stepping.{ArePut, StopsStepping}

-- what holds of all items of two lists holds of those of the first
All-first : {X : Type 0} (P : X → Type 0) (xs ys : List X) → All P (xs ++ ys) → All P xs
All-first P [] ys all = All-nil P
All-first P (x ∷ xs) ys all = All-cons P x xs (All-head P x (xs ++ ys) all) (All-first P xs ys (All-tail P x (xs ++ ys) all))

-- puts of which the last failed put the packets before it
stopped-pairs : (packets : List Packet) (last : Packet) → pairs_put (puts_of packets ++ put_failed (flight_of last) ∷ []) ≡ map flight_of packets
stopped-pairs [] last = refl
stopped-pairs (packet ∷ packets) last = ap (λ (pairs : List Flight). flight_of packet ∷ pairs) (stopped-pairs packets last)

-- and gave nothing
stopped-given : (packets : List Packet) (last : Packet) → flights_given (puts_of packets ++ put_failed (flight_of last) ∷ []) ≡ []
stopped-given [] last = refl
stopped-given (packet ∷ packets) last = stopped-given packets last

-- a key of packets is one of these and more
has-first : (key : Key) (packets others : List Packet) → has_key key packets ≡ true → has_key key (packets ++ others) ≡ true
has-first key packets others has = has_key-append key packets others ∙ or_left (has_key key packets) (has_key key others) has

module _ {L : Type 0} (g : LinksGhosts L) (code : Code) (pattern : ℕ) (window : Window) where
  abbrev Is : Packet → Type 0
  Is packet = packet ≡ packet_of code pattern window (key_of packet)

  -- Packets that stand before a last one, where they are all of the traffic by their keys, none twice, and none of what was sent.
  -- They and what was sent are such packets too.
  are-put : (GivenAsPut : Type 0) (sent more : List Packet) (last : Packet) → ((key : Key) → times_of key sent ≤ 1)
      → ((key : Key) → has_key key sent ≡ true → IsKey code pattern window key) → ((key : Key) → times_of key (more ++ last ∷ []) ≤ 1)
      → ((key : Key) → has_key key (more ++ last ∷ []) ≡ true → IsKey code pattern window key)
      → ((key : Key) → has_key key (more ++ last ∷ []) ≡ true → has_key key sent ≡ false)
      → (GivenAsPut → AreOfTraffic code pattern window sent) → (GivenAsPut → AreOfTraffic code pattern window (more ++ last ∷ []))
      → ArePut code pattern window GivenAsPut (more ++ sent)
  are-put GivenAsPut sent more last sent_once sent_are once are unsent sent_is is =
      record {
        once = λ key. elim (cases_Bool (has_key key more)) [
          | inl has ↦
              omega (
                arith,
                times_of-append key more sent,
                times_of-append key more (last ∷ []),
                once key,
                times-none key sent (unsent key (has-first key more (last ∷ []) has)),
              )
          | inr lacks ↦ omega (arith, times_of-append key more sent, times-none key more lacks, sent_once key)
        ];
        keys = λ key has. elim (or_cases (has_key key more) (has_key key sent) (sym (has_key-append key more sent) ∙ has)) [
          | inl later ↦ are key (has-first key more (last ∷ []) later)
          | inr before ↦ sent_are key before
        ];
        payloads = λ as_put. All-append Is more sent (All-first Is more (last ∷ []) (is as_put)) (sent_is as_put);
      }

  -- where a packet comes from, on a link that leaves the source, and on another
  abbrev IsFirst : Packet → Type 0
  IsFirst packet = leaves_source code.net packet.link ≡ true → Is packet

  abbrev IsSum : List Packet → Packet → Type 0
  IsSum held packet = leaves_source code.net packet.link ≡ false → packet.payload ≡ summed code pattern held (key_of packet)

  -- packets that say where they come from, beside what was sent that does so too
  relayed-too : (held more sent : List Packet) → All IsFirst more → All (IsSum held) more → AreRelayed code pattern window held sent
      → AreRelayed code pattern window held (more ++ sent)
  relayed-too held more sent firsts sums relayed =
      record {
        from_source = All-append IsFirst more sent firsts relayed.from_source;
        others = All-append (IsSum held) more sent sums relayed.others;
      }

  module _ (run : List Delivery) (relays : List Relay) (sinks : List (Option Receiver)) (flying : List Flight) (state : RelayState)
      (running : IsRunning code pattern window run relays sinks flying state) where
    kept : Kept code pattern window state
    kept = reached-kept code pattern window run state running.is_run

    -- where all payloads were given as they were put, all packets are of the traffic
    faithful : IsFaithful run → IsOfTraffic code pattern window state
    faithful = (run-reaches code pattern window run state running.is_window.blocks running.is_run).faithful

    -- what is held after a delivery of the traffic is of the traffic by its keys
    now-keys : (delivery : Delivery) → IsKey code pattern window (key_of delivery.pair)
        → (key : Key) → has_key key (held_after delivery state.held) ≡ true → IsKey code pattern window key
    now-keys delivery is key has =
        elim (or_cases (is_same_key (key_of delivery.pair) key) (has_key key state.held) (sym (has_key-held_after key delivery state.held) ∙ has)) [
          | inl same ↦ subst (IsKey code pattern window) (same_key (key_of delivery.pair) key same) is
          | inr there ↦ kept.of_traffic key (kept.sent_is key ∙ or_right (has_key key state.flying) (has_key key state.held) there)
        ]

    -- and it is of the traffic where the payloads are as they were put
    now-are : (delivery : Delivery) → Contains state.flying delivery.pair → delivery.payload ≡ delivery.pair.payload → IsFaithful run
        → AreOfTraffic code pattern window (held_after delivery state.held)
    now-are delivery flew payload as_put =
        let is = faithful as_put in
        elim (cases_Bool (has_key (key_of delivery.pair) state.held)) [
          | inl has ↦ rw has is.held
          | inr none ↦ rw none (All-cons Is (record delivery.pair { payload = delivery.payload }) state.held
              (ap (λ payload. record delivery.pair { payload = payload }) payload ∙ All-contains Is state.flying delivery.pair is.flying flew) is.held)
        ]

    -- where a take fails nothing more is put
    pub stops-take : (before after : L) → g.moves (take_failed ∷ []) before after → StopsStepping g code pattern window run state before after
    stops-take before after calls =
        record {
          moves = take_failed ∷ [];
          more = [];
          calls = calls;
          closed = refl;
          front = [];
          fault = take_failed;
          ended = refl;
          well = refl;
          fails = refl;
          puts = refl;
          put = record { once = kept.sent_once; keys = kept.of_traffic; payloads = λ given. (faithful given.1).sent };
          relayed = subst (λ (came : List Packet). AreRelayed code pattern window came state.sent) (sym (append-nil (map packet_given run)))
              (sent-told code pattern window run state running.is_run);
        }

    -- where a put fails, packets of the step were put before it
    pub stops-put : (before after : L) (delivery : Delivery) → IsKey code pattern window (key_of delivery.pair) → Contains state.flying delivery.pair
        → (as_put : g.faithful before ≡ true → delivery.payload ≡ delivery.pair.payload) → (mid : L)
        → StopsPassing g code pattern (head_of code.net.links delivery.pair.link) delivery state.held state.sent mid after
        → g.moves (took (flight_of (packet_given delivery)) ∷ []) before mid
        → (more_moves : (first later : List Move) (a b c : L) → g.moves first a b → g.moves later b c → g.moves (first ++ later) a c)
        → StopsStepping g code pattern window run state before after
    stops-put before after delivery is_key flew as_put mid stops taken more_moves =
        record {
          moves = take ++ puts;
          more = stops.more;
          calls = more_moves take puts before mid after taken stops.calls;
          closed = still-closed (puts_of stops.more) (put_failed (flight_of stops.last) ∷ []) (puts-closed stops.more) refl;
          front = take ++ puts_of stops.more;
          fault = put_failed (flight_of stops.last);
          ended = refl;
          well = puts-well stops.more;
          fails = refl;
          puts = stopped-pairs stops.more stops.last;
          put =
              are-put ((g.faithful before ≡ true) × IsFaithful run) state.sent stops.more stops.last kept.sent_once kept.of_traffic stops.once
              key-is (λ key has. (stops.may key has).unsent) (λ given. (faithful given.1).sent) are;
          relayed = subst (λ (came : List Packet). AreRelayed code pattern window came (stops.more ++ state.sent)) (sym came)
              (relayed-told code pattern window now (map packet_given (run ++ delivery ∷ [])) (stops.more ++ state.sent)
              (after-came code pattern window run state running.is_run delivery) sums);
        }
      where
        -- the take, and the puts after it
        take : List Move
        take = took (flight_of (packet_given delivery)) ∷ []

        puts : List Move
        puts = puts_of stops.more ++ put_failed (flight_of stops.last) ∷ []

        all : List Packet
        all = stops.more ++ stops.last ∷ []

        now : List Packet
        now = held_after delivery state.held

        -- what came, in the run and by the take
        came : map packet_given run ++ packets_in (flights_given (take ++ puts)) ≡ map packet_given (run ++ delivery ∷ [])
        came =
            ap (λ (flights : List Flight). map packet_given run ++ packets_in (flight_of (packet_given delivery) ∷ flights))
            (stopped-given stops.more stops.last)
            ∙ ap (λ (packet : Packet). map packet_given run ++ packet ∷ [])
            (packet_in-frame_of (packet_given delivery) (fits-key code pattern window (packet_given delivery) running.is_window.last is_key))
            ∙ sym (map-append packet_given run (delivery ∷ []))

        -- each of the packets may be sent
        may-at : (k : ℕ) (d : Packet) → k < length all
            → MaySend code pattern (head_of code.net.links delivery.pair.link) now state.sent (key_of (get_or all k d))
        may-at k d within = stops.may (key_of (get_or all k d)) (has_key-at all k d within)

        -- so what is put and what was sent are sums of what is held
        sums : AreRelayed code pattern window now (stops.more ++ state.sent)
        sums =
            relayed-too now stops.more state.sent
            (All-first IsFirst stops.more (stops.last ∷ [])
            (λ k d within leaves. absurd (both_ways (leaves_source code.net (get_or all k d).link) (may-at k d within).not_source leaves)))
            (All-first (IsSum now) stops.more (stops.last ∷ []) (λ k d within inner. stops.payloads k d within))
            (relayed-after code pattern window run state running.is_run delivery)

        -- each of the packets is of the traffic by its key
        key-is : (key : Key) → has_key key all ≡ true → IsKey code pattern window key
        key-is key has =
            let may = stops.may key has in
            operands-are code pattern window now (now-keys delivery is_key) key may.live may.operands

        -- and it is of the traffic where all payloads were given as they were put
        are : (g.faithful before ≡ true) × IsFaithful run → AreOfTraffic code pattern window all
        are given k d within =
            let packet = get_or all k d in
            let key = key_of packet in
            let has : has_key key all ≡ true = list_any_at (λ other. is_same_key (key_of other) key) all k d within (itself key) in
            let may = stops.may key has in
            let held = now-are delivery flew (as_put given.0) given.1 in
            let payload : packet.payload ≡ (packet_of code pattern window key).payload =
            stops.payloads k d within
            ∙ summed-is code pattern window running.is_window.blocks now key held (key-is key has) may.not_source may.operands in
            ap (λ payload. record packet { payload = payload }) payload

  -- where the first puts fail, packets that the source gives were put before it
  pub stops-first : (relays : List Relay) (sinks : List (Option Receiver)) → Starts code pattern window relays sinks
      → (source new : Relay) → slice_get relays code.net.source ≡ Some source → (packets : List Packet) (last : Packet)
      → GivesEach source (packets ++ last ∷ []) new → (before after : L)
      → g.moves (puts_of packets ++ put_failed (flight_of last) ∷ []) before after
      → MakesMoves g before after (IsStopped (g.faithful before) code pattern window)
  stops-first relays sinks starts source new at packets last each before after calls =
      let fed : IsFedAll code pattern window source = starts.ready.source source at in
      let all = packets ++ last ∷ [] in
      let moves = puts_of packets ++ put_failed (flight_of last) ∷ [] in
      let are = given code pattern window source new all fed each in
      let leaves : All (λ packet. leaves_source code.net packet.link ≡ true) all =
      λ k d within. (given-key code pattern window source new all fed each (key_of (get_or all k d)) (has_key-at all k d within)).1 in
      record {
        made = moves;
        lead = calls;
        holds = record {
          are_blocks = starts.is_window.blocks;
          closed = still-closed (puts_of packets) (put_failed (flight_of last) ∷ []) (puts-closed packets) refl;
          front = puts_of packets;
          fault = put_failed (flight_of last);
          ended = refl;
          well = puts-well packets;
          fails = refl;
          packets = packets;
          puts = subst (IsPermutation (map flight_of packets)) (sym (stopped-pairs packets last)) (IsPermutation-refl (map flight_of packets));
          put = record {
            once = λ key. omega (arith, times_of-append key packets (last ∷ []), are.once key);
            keys = λ key has. (given-key code pattern window source new all fed each key (has-first key packets (last ∷ []) has)).0;
            payloads = λ as_put. All-first Is packets (last ∷ []) are.are;
          };
          relayed = record {
            from_source = All-first IsFirst packets (last ∷ []) (λ k d within leaves. are.are k d within);
            others = All-first (IsSum (packets_given moves)) packets (last ∷ [])
                (λ k d within inner. absurd (both_ways (leaves_source code.net (get_or all k d).link) inner (leaves k d within)));
          };
        };
      }
