-- Calls on links that are a run of a window: how they begin, how they go on, and what they are where they end.
use Rattle.std.specs.Prelude.{◌≡◌, ◌++◌, ◌∷◌, ℕ, true, false, IsPermutation, List, [], Option, Some, length, map, slice_get}
use Rattle.std.specs.List.{list_any}
use Rattle.std.proofs.Common.{◌∙◌, ap, refl, subst, sym}
use Rattle.std.proofs.lemmas.List.{append-nil, append_assoc, map-append, nil_from_length}
use Rattle.std.proofs.lemmas.List.Elements.{All-nil, All-push}
use Rattle.std.proofs.lemmas.List.Sorted.{IsPermutation-append_comm, IsPermutation-append_right, IsPermutation-map, IsPermutation-trans, length_permutation}
use Rattle.std.proofs.lemmas.Simd.{map-map}
use Rattle.coded_traffic.specs.Traffic.{Key, Window, keys_of, packet_of, traffic_of}
use Rattle.generation_frame.specs.Frames.{packet_in}
use Rattle.generation_frame.specs.declared.frame.Packet.{Packet}
use Rattle.lif_outside.proofs.OpenLaws.{as_before, still-closed}
use Rattle.lif_outside.specs.Calls.{MakesMoves}
use Rattle.lif_outside.specs.LinksAccounts.{LinksAccounts, holding}
use Rattle.lif_outside.specs.MoveLaws.{flights_given-append, pairs_put-append}
use Rattle.lif_outside.specs.Moves.{InFlight, IsOpenAsBefore, Move, flights_given, pairs_put, took, took_none}
use Rattle.lif_outside.specs.declared.links.Flight.{Flight}
use Rattle.lif_outside.specs.declared.links.Links.{Ghosts as LinksGhosts}
use Rattle.node_program.specs.declared.code.Code.{Code}
use Rattle.node_stations.proofs.PuttingLaws.{puts-closed}
use Rattle.node_stations.proofs.SourceLaws.{source-gives}
use Rattle.node_stations.specs.Putting.{flight_of, puts_of}
use Rattle.node_stations.specs.Shown.{GivesEach, IsReplaced}
use Rattle.relay_core.proofs.RelayedLaws.{first-held, run-relayed}
use Rattle.relay_core.proofs.RunLaws.{run-reaches}
use Rattle.relay_core.specs.Core.{Delivery, opening, packets_of}
use Rattle.relay_core.specs.Runs.{AreRelayed}
use Rattle.relay_node.specs.Relay.{IsDue, Relay}
use Rattle.sink_decoder.specs.Receiving.{Receiver}
use Rattle.relay_runner.proofs.GivenLaws.{packets_in-given, run-fit}
use Rattle.relay_runner.proofs.OpeningLaws.{opened}
use Rattle.relay_runner.proofs.WellLaws.{puts-busy, puts-well, still-busy, still-well}
use Rattle.relay_runner.specs.Carried.{IsStopped, packets_given}
use Rattle.relay_runner.specs.Carrying.{Carries, IsUnderway, finds_nothing}
use Rattle.relay_runner.specs.Delivered.{packet_given}
use Rattle.relay_runner.specs.Running.{HasCarried, IsRunning, Running, Starts}
use Rattle.relay_runner.specs.Showing.{packets_in}
use Rattle.relay_runner.specs.Stepping.{Steps, StopsStepping}

-- puts of packets put their pairs
pub pairs_put-puts_of : (packets : List Packet) → pairs_put (puts_of packets) ≡ map flight_of packets
pairs_put-puts_of [] = refl
pairs_put-puts_of (packet ∷ packets) = ap (λ pairs. flight_of packet ∷ pairs) (pairs_put-puts_of packets)

-- and give nothing
pub flights_given-puts_of : (packets : List Packet) → flights_given (puts_of packets) ≡ []
flights_given-puts_of [] = refl
flights_given-puts_of (packet ∷ packets) = flights_given-puts_of packets

-- pairs of more packets, put besides those of some
put-more : (more sent : List Packet) (put : List Flight) → IsPermutation (map flight_of sent) put
    → IsPermutation (map flight_of (more ++ sent)) (put ++ map flight_of more)
put-more more sent put is =
    subst (λ (flights : List Flight). IsPermutation flights (put ++ map flight_of more)) (sym (map-append flight_of more sent))
    (IsPermutation-trans (map flight_of more ++ map flight_of sent) (map flight_of more ++ put) (put ++ map flight_of more)
    (IsPermutation-append_right (map flight_of more) (map flight_of sent) put is) (IsPermutation-append_comm (map flight_of more) put))

-- only the empty list is another order of the empty list
none-permuted : {X : Type 0} (some none : List X) → IsPermutation some none → none ≡ [] → some ≡ []
none-permuted some none is empty = nil_from_length some (sym (length_permutation some none is) ∙ ap length empty)

-- a runner whose window was carried
pub has_carried : {L : Type 0} (g : LinksGhosts L) (runner : Running) (window : Window) → runner.first ≡ window.first
    → runner.count ≡ length window.blocks → (before now : L)
    → Carries g runner.code runner.pattern window before now runner.relays runner.sinks → HasCarried runner
has_carried g runner window same_first same_count before now carries =
    record {
      window = window;
      run = carries.carried.run;
      state = carries.carried.state;
      same_first = same_first;
      same_count = same_count;
      running = subst
          (λ (flying : List Flight). IsRunning runner.code runner.pattern window carries.carried.run runner.relays runner.sinks flying carries.carried.state)
          carries.quiet carries.carried.running;
    }

module _ {L : Type 0} (g : LinksGhosts L) (code : Code) (pattern : ℕ) (window : Window) where
  -- calls that are a run, of which the last found nothing, and after which nothing flies, carry the window
  pub carries : (before now : L) (relays : List Relay) (sinks : List (Option Receiver)) (under : IsUnderway g code pattern window before now relays sinks)
      → (front : List Move) → under.moves ≡ front ++ took_none ∷ [] → list_any finds_nothing front ≡ false → g.flying now ≡ []
      → Carries g code pattern window before now relays sinks
  carries before now relays sinks under front ended found quiet =
      let none : under.state.flying ≡ [] =
      none-permuted under.state.flying (packets_in (g.flying now)) under.running.shown.flies (ap packets_in quiet) in
      let reaches = run-reaches code pattern window under.run under.state under.running.is_window.blocks under.running.is_run in
      let pairs : map flight_of (packets_of code pattern window) ≡ traffic_of code pattern window =
      map-map flight_of (packet_of code pattern window) (keys_of code pattern window) in
      record {
        carried = under;
        front = front;
        ended = ended;
        found = found;
        quiet = quiet;
        reaches = reaches;
        held = first-held code pattern under.run (opening code pattern window) under.state under.running.is_run;
        relayed = run-relayed code pattern window under.run under.state under.running.is_run;
        traffic = λ faithful.
            subst (λ (flights : List Flight). IsPermutation flights (pairs_put under.moves)) pairs
            (IsPermutation-trans (map flight_of (packets_of code pattern window)) (map flight_of under.state.sent) (pairs_put under.moves)
            (IsPermutation-map flight_of (packets_of code pattern window) under.state.sent (reaches.whole (under.as_put faithful) none)) under.puts);
      }

  module _ (accounts : (made : List Move) (old new : L) → g.moves made old new
      → LinksAccounts (holding g.flying g.room g.opened_with g.repeats) g.faithful g.faults g.sent g.given made old new) where
    -- the room and the number stay
    pub still-open : (before now : L) (relays : List Relay) (sinks : List (Option Receiver)) → IsUnderway g code pattern window before now relays sinks
        → IsOpenAsBefore (holding g.flying g.room g.opened_with g.repeats before) (holding g.flying g.room g.opened_with g.repeats now)
    still-open before now relays sinks under =
        as_before (g.faithful before) under.moves _ _ under.closed (accounts under.moves before now under.calls).follows

    -- what the source gives, put where nothing flew, is the run of no steps
    pub underway-first : (relays : List Relay) (sinks : List (Option Receiver)) → Starts code pattern window relays sinks
        → (source new : Relay) → slice_get relays code.net.source ≡ Some source → (more : List Packet) → GivesEach source more new
        → ((key : Key) → IsDue new key → ⊥) → (after : List Relay) → IsReplaced code.net.source new relays after
        → (before now : L) → g.flying before ≡ [] → g.moves (puts_of more) before now → IsUnderway g code pattern window before now after sinks
    underway-first relays sinks starts source new at_source more each none after replaced before now quiet calls =
        let first = opening code pattern window in
        let given : IsPermutation first.sent more = source-gives code pattern window source new more (starts.ready.source source at_source) each none in
        record {
          moves = puts_of more;
          run = [];
          state = first;
          running = record {
            pattern_is = starts.pattern_is;
            is_window = starts.is_window;
            is_run = refl;
            shown = opened code pattern window relays after sinks source new more (g.faithful before)
                (holding g.flying g.room g.opened_with g.repeats before) (holding g.flying g.room g.opened_with g.repeats now)
                starts.is_window.last starts.ready at_source each none replaced quiet (accounts (puts_of more) before now calls).follows;
          };
          calls = calls;
          closed = puts-closed more;
          well = puts-well more;
          puts = subst (IsPermutation (map flight_of first.sent)) (sym (pairs_put-puts_of more)) (IsPermutation-map flight_of first.sent more given);
          gives = flights_given-puts_of more;
          as_put = λ faithful. All-nil (λ (delivery : Delivery). delivery.payload ≡ delivery.pair.payload);
        }

    -- none of these calls is a take
    pub busy-first : (relays : List Relay) (sinks : List (Option Receiver)) (starts : Starts code pattern window relays sinks)
        (source new : Relay) (at_source : slice_get relays code.net.source ≡ Some source) (more : List Packet) (each : GivesEach source more new)
        (none : (key : Key) → IsDue new key → ⊥) (after : List Relay) (replaced : IsReplaced code.net.source new relays after)
        (before now : L) (quiet : g.flying before ≡ []) (calls : g.moves (puts_of more) before now)
        → list_any finds_nothing
        (underway-first relays sinks starts source new at_source more each none after replaced before now quiet calls).moves ≡ false
    unfolding underway-first
    busy-first relays sinks starts source new at_source more each none after replaced before now quiet calls = puts-busy more

    module _ (more_moves : (first later : List Move) (a b c : L) → g.moves first a b → g.moves later b c → g.moves (first ++ later) a c)
        (before mid now : L) (relays : List Relay) (sinks : List (Option Receiver)) where
      -- faithful links stay so
      still-faithful : IsUnderway g code pattern window before mid relays sinks → g.faithful before ≡ true → g.faithful mid ≡ true
      still-faithful under faithful = (accounts under.moves before mid under.calls).same_faithful ∙ faithful

      -- a step more
      pub underway-more : (next : List Relay) (receivers : List (Option Receiver)) (under : IsUnderway g code pattern window before mid relays sinks)
          → Steps g code pattern window under.run under.state mid now next receivers → IsUnderway g code pattern window before now next receivers
      underway-more next receivers under steps =
          let flight : Flight = flight_of (packet_given steps.delivery) in
          let later : List Move = took flight ∷ puts_of steps.more in
          let flight_in : Delivery → Flight = λ delivery. flight_of (packet_given delivery) in
          let put : pairs_put (under.moves ++ later) ≡ pairs_put under.moves ++ map flight_of steps.more =
          pairs_put-append under.moves later ∙ ap (λ (pairs : List Flight). pairs_put under.moves ++ pairs) (pairs_put-puts_of steps.more) in
          let more : IsPermutation (map flight_of (steps.more ++ under.state.sent)) (pairs_put under.moves ++ map flight_of steps.more) =
          put-more steps.more under.state.sent (pairs_put under.moves) under.puts in
          record {
            moves = under.moves ++ later;
            run = under.run ++ steps.delivery ∷ [];
            state = steps.next;
            running = steps.running;
            calls = more_moves under.moves later before mid now under.calls steps.calls;
            closed = still-closed under.moves later under.closed (puts-closed steps.more);
            well = still-well under.moves later under.well (puts-well steps.more);
            puts = subst (λ (packets : List Packet). IsPermutation (map flight_of packets) (pairs_put (under.moves ++ later))) (sym steps.sent)
                (subst (IsPermutation (map flight_of (steps.more ++ under.state.sent))) (sym put) more);
            gives = flights_given-append under.moves later
                ∙ ap (λ (flights : List Flight). flights_given under.moves ++ flight ∷ flights) (flights_given-puts_of steps.more)
                ∙ ap (λ (flights : List Flight). flights ++ flight ∷ []) under.gives
                ∙ sym (map-append flight_in under.run (steps.delivery ∷ []));
            as_put = λ faithful. All-push (λ (delivery : Delivery). delivery.payload ≡ delivery.pair.payload) under.run steps.delivery
                (under.as_put faithful) (steps.as_put (still-faithful under faithful));
          }

      -- no take of it found nothing
      pub busy-more : (next : List Relay) (receivers : List (Option Receiver)) (under : IsUnderway g code pattern window before mid relays sinks)
          (steps : Steps g code pattern window under.run under.state mid now next receivers) → list_any finds_nothing under.moves ≡ false
          → list_any finds_nothing (underway-more next receivers under steps).moves ≡ false
      unfolding underway-more
      busy-more next receivers under steps busy =
          still-busy under.moves (took (flight_of (packet_given steps.delivery)) ∷ puts_of steps.more) busy (puts-busy steps.more)

      -- a take that gave nothing, as the last call
      pub underway-none : (under : IsUnderway g code pattern window before mid relays sinks) → g.moves (took_none ∷ []) mid now
          → (ended : IsUnderway g code pattern window before now relays sinks) × (ended.moves ≡ under.moves ++ took_none ∷ [])
      underway-none under calls =
          let follows = (accounts (took_none ∷ []) mid now calls).follows in
          let same : g.flying mid ≡ g.flying now = sym (ap (λ (held : InFlight). held.flying) follows.2 ∙ follows.1.1.same_flying) in
          let put = pairs_put-append under.moves (took_none ∷ []) ∙ append-nil (pairs_put under.moves) in
          let given = flights_given-append under.moves (took_none ∷ []) ∙ append-nil (flights_given under.moves) in (
            record {
              moves = under.moves ++ took_none ∷ [];
              run = under.run;
              state = under.state;
              running = subst (λ (flying : List Flight). IsRunning code pattern window under.run relays sinks flying under.state) same under.running;
              calls = more_moves under.moves (took_none ∷ []) before mid now under.calls calls;
              closed = still-closed under.moves (took_none ∷ []) under.closed refl;
              well = still-well under.moves (took_none ∷ []) under.well refl;
              puts = subst (IsPermutation (map flight_of under.state.sent)) (sym put) under.puts;
              gives = given ∙ under.gives;
              as_put = under.as_put;
            },
            refl,
          )

      -- a step that failed
      pub stops-carrying : (under : IsUnderway g code pattern window before mid relays sinks)
          → StopsStepping g code pattern window under.run under.state mid now
          → MakesMoves g before now (IsStopped (g.faithful before) code pattern window)
      stops-carrying under stops =
          let put : pairs_put (under.moves ++ stops.moves) ≡ pairs_put under.moves ++ map flight_of stops.more =
          pairs_put-append under.moves stops.moves ∙ ap (λ (pairs : List Flight). pairs_put under.moves ++ pairs) stops.puts in
          let packets = stops.more ++ under.state.sent in
          let came : packets_given (under.moves ++ stops.moves) ≡ map packet_given under.run ++ packets_in (flights_given stops.moves) =
          ap packets_in (flights_given-append under.moves stops.moves)
          ∙ map-append (λ (flight : Flight). packet_in flight.frame) (flights_given under.moves) (flights_given stops.moves)
          ∙ ap (λ (packets : List Packet). packets ++ packets_in (flights_given stops.moves)) (ap packets_in under.gives
          ∙ packets_in-given under.run (run-fit code pattern window under.run under.state under.running.is_window.last under.running.is_run)) in
          record {
            made = under.moves ++ stops.moves;
            lead = more_moves under.moves stops.moves before mid now under.calls stops.calls;
            holds = record {
              are_blocks = under.running.is_window.blocks;
              closed = still-closed under.moves stops.moves under.closed stops.closed;
              front = under.moves ++ stops.front;
              fault = stops.fault;
              ended = ap (λ (moves : List Move). under.moves ++ moves) stops.ended ∙ sym (append_assoc under.moves stops.front (stops.fault ∷ []));
              well = still-well under.moves stops.front under.well stops.well;
              fails = stops.fails;
              packets = packets;
              puts = subst (IsPermutation (map flight_of packets)) (sym put) (put-more stops.more under.state.sent (pairs_put under.moves) under.puts);
              put = record {
                once = stops.put.once;
                keys = stops.put.keys;
                payloads = λ faithful. stops.put.payloads (still-faithful under faithful, under.as_put faithful);
              };
              relayed = subst (λ (came : List Packet). AreRelayed code pattern window came packets) (sym came) stops.relayed;
            };
          }
