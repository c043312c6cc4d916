-- What the source gives of the blocks that it was fed is the opening state: the nodes and the sinks show it, and what was put flies.
use Rattle.std.proofs.lemmas.Option.{same_Some}
use Rattle.std.specs.Prelude.{◌≡◌, ◌≢◌, ◌≤◌, ◌+◌, ◌^◌, ◌==◌, ◌&&◌, ◌||◌, ◌++◌, ℕ, Bool, true, false, All, Contains, IsPermutation, List, [], ◌∷◌, Option, Some, filter, length, slice_get}
use Rattle.std.proofs.Common.{refl, sym, ap, subst, ◌∙◌, arith, get_or, inl, inr}
use Rattle.std.proofs.lemmas.Bool.{and_parts, cases_Bool, eqb-false, eqb-true, false≢true, ne_eqb}
use Rattle.std.proofs.lemmas.List.{append-nil}
use Rattle.std.proofs.lemmas.List.Elements.{All-contains, All-nil}
use Rattle.std.proofs.lemmas.List.Folds.{list_any_at}
use Rattle.std.proofs.lemmas.List.Sorted.{All-permutation, IsPermutation-trans}
use Rattle.coded_traffic.specs.Traffic.{Key, Window, is_same_key, key_of}
use Rattle.generation_frame.specs.Frames.{Fits}
use Rattle.generation_frame.specs.declared.frame.Packet.{Packet}
use Rattle.lif_outside.specs.Moves.{FollowMoves, InFlight}
use Rattle.lif_outside.specs.declared.links.Flight.{Flight}
use Rattle.net_model.specs.Walks.{head_of, leaves_source}
use Rattle.node_plans.proofs.OrderLaws.{source-no_ins}
use Rattle.node_plans.proofs.PlanLaws.{ins-each}
use Rattle.node_plans.specs.Plans.{ins_of, outs_of, place_of}
use Rattle.node_plans.specs.declared.plan.Plan.{Plan}
use Rattle.node_program.specs.CodeValue.{is_live_in}
use Rattle.node_program.specs.declared.code.Code.{Code}
use Rattle.node_stations.proofs.GivingLaws.{shown_after}
use Rattle.node_stations.proofs.SourceLaws.{source-gives}
use Rattle.node_stations.specs.Opening.{demand_of}
use Rattle.node_stations.specs.Putting.{puts_of}
use Rattle.node_stations.specs.Shown.{GivesEach, IsInto, IsReplaced, Shows, ShowsHeld, ShowsSent, ShowsSink, WorksOn}
use Rattle.relay_core.proofs.ListLaws.{or_turned}
use Rattle.relay_core.proofs.OpeningLaws.{has_key-first}
use Rattle.relay_core.proofs.PacketLaws.{has_key-append, has_key-permutation, itself}
use Rattle.relay_core.proofs.TrafficLaws.{is_key-packets}
use Rattle.relay_core.specs.Core.{has_key, opening, packets_of}
use Rattle.relay_node.proofs.TrafficLaws.{leaves_source-out}
use Rattle.relay_node.specs.Relay as nodes
use Rattle.relay_node.specs.Relay.{IsDue, IsOut, Relay}
use Rattle.sink_decoder.specs.Receiving.{Receiver}
use Rattle.relay_runner.proofs.FlyingLaws.{PutsFly, fits-key, puts-fly}
use Rattle.relay_runner.proofs.PlannedLaws.{at_place}
use Rattle.relay_runner.specs.Ready.{AreReady, IsReadySink}
use Rattle.relay_runner.specs.Showing.{IsPair, IsShown, ShowSinks, packets_in}

-- one of two tests, where the other fails
or_false : (b : Bool) → (b || false) ≡ b
or_false true = refl
or_false false = refl

-- what was given is shown besides what was sent
shown-each : (more : List Packet) (old new : Relay) (sent : List Packet) → ShowsSent old sent → GivesEach old more new → ShowsSent new (more ++ sent)
shown-each [] old new sent shown is = subst (λ (relay : Relay). ShowsSent relay sent) (sym is) shown
shown-each (packet ∷ more) old new sent shown (mid, gives, rest) =
    λ key is.
    shown-each more mid new (packet ∷ sent) (shown_after packet old mid sent gives shown) rest key is
    ∙ has_key-append key more (packet ∷ sent)
    ∙ or_turned (has_key key more) (is_same_key (key_of packet) key) (has_key key sent)
    ∙ sym (has_key-append key (packet ∷ more) sent)

module _ (code : Code) (pattern : ℕ) (window : Window) where
  -- a node that gives stays at its work
  works-each : (node : ℕ) (more : List Packet) (old new : Relay) → WorksOn code pattern node window old → GivesEach old more new
      → WorksOn code pattern node window new
  works-each node [] old new works is = subst (WorksOn code pattern node window) (sym is) works
  works-each node (packet ∷ more) old new works (mid, gives, rest) =
      works-each node more mid new
      (record { plan = gives.work.plan ∙ works.plan; first = gives.work.first ∙ works.first; count = gives.work.count ∙ works.count }) rest

  -- what flies first
  abbrev first : List Packet
  first = filter (λ packet. leaves_source code.net packet.link) (packets_of code pattern window)

  -- it fits into frames
  first-fit : window.first + length window.blocks ≤ 2 ^ 32 → All Fits first
  first-fit short k d within =
      let packet = get_or first k d in
      let has : has_key (key_of packet) first ≡ true =
      list_any_at (λ other. is_same_key (key_of other) (key_of packet)) first k d within (itself (key_of packet)) in
      let among = (and_parts _ _ (sym (has_key-first code pattern window (key_of packet)) ∙ has)).1 in
      fits-key code pattern window packet short (is_key-packets code pattern window (key_of packet) among)

  -- no packet of it is on a link out of another node than the source
  not-first : (node : ℕ) (relay : Relay) (key : Key) → WorksOn code pattern node window relay → node ≢ code.net.source → IsOut relay key
      → has_key key first ≡ false
  not-first node relay key works other is =
      let leaves : Contains (outs_of code pattern node) key.link = subst (λ (plan : Plan). Contains plan.outs key.link) works.plan is.leaves in
      has_key-first code pattern window key
      ∙ ap (λ b. b && has_key key (packets_of code pattern window)) (leaves_source-out code pattern node key.link leaves ∙ ne_eqb node code.net.source other)

  -- to a node to which nothing came nothing is held
  nothing-held : (node : ℕ) (relay : Relay) → WorksOn code pattern node window relay → nodes.HasNothing relay → ShowsHeld code pattern node window relay []
  nothing-held node relay works nothing =
      record {
        works = works;
        has = λ key into. nothing.inputs key.generation key.link key.piece;
        bytes = λ key into has. absurd (false≢true has);
      }

  -- so it is at the source, into which no live link leads
  source-held : (relay : Relay) → WorksOn code pattern code.net.source window relay → ShowsHeld code pattern code.net.source window relay []
  source-held relay works =
      record {
        works = works;
        has = λ key into. absurd (no_into key into);
        bytes = λ key into has. absurd (false≢true has);
      }
    where
      no_into : (key : Key) → IsInto code pattern code.net.source window key → ⊥
      no_into key into =
          let Is : ℕ → Type 0 = λ link. (is_live_in code pattern link ≡ true) × (head_of code.net.links link ≡ code.net.source) in
          let is = All-contains Is (ins_of code pattern code.net.source) key.link (ins-each code pattern code.net.source) into.into in
          source-no_ins code pattern key.link is.0 is.1

  -- and at a sink to which nothing came
  sink-held : (demand : ℕ) (sink : Receiver) → IsReadySink code demand window sink → ShowsSink code demand window sink []
  sink-held demand sink ready =
      record {
        plan = ready.plan;
        first = ready.first;
        count = ready.count;
        has = λ key is. ready.nothing key.generation key.link key.piece (record {
          from_first = omega (arith, ready.first, is.begun);
          to_last = omega (arith, ready.first, ready.count, is.numbered);
        });
        bytes = λ key is has. absurd (false≢true has);
      }

  module _ (relays after : List Relay) (sinks : List (Option Receiver)) (source new : Relay) (more : List Packet)
      (ready : AreReady code pattern window relays sinks) (at_source : slice_get relays code.net.source ≡ Some source)
      (each : GivesEach source more new) (none : (key : Key) → IsDue new key → ⊥) (replaced : IsReplaced code.net.source new relays after) where
    -- what was given is what flies first
    gives-first : IsPermutation first more
    gives-first = source-gives code pattern window source new more (ready.source source at_source) each none

    -- the source shows that it was sent
    source-sent : ShowsSent new first
    source-sent key is =
        shown-each more source new [] (λ key is. (ready.source source at_source).not_given key is) each key is
        ∙ has_key-append key more [] ∙ or_false (has_key key more) ∙ sym (has_key-permutation key first more gives-first)

    -- all nodes show that it was sent and that nothing is held
    nodes-shown : Shows code pattern window after [] first
    nodes-shown =
        record {
          count = replaced.count ∙ ready.count;
          shows = λ node relay at. elim (cases_Bool (node == code.net.source)) [
            | inl same ↦
                let is : node ≡ code.net.source = eqb-true node code.net.source same in
                let found : new ≡ relay = same_Some new relay (sym replaced.at ∙ ap (slice_get after) (sym is) ∙ at) in
                let works = works-each code.net.source more source new (ready.works code.net.source source at_source) each in
                subst (λ (r : Relay). ShowsHeld code pattern node window r []) found
                (subst (λ n. ShowsHeld code pattern n window new []) (sym is) (source-held new works))
            | inr apart ↦
                let other : node ≢ code.net.source = eqb-false node code.net.source apart in
                let was : slice_get relays node ≡ Some relay = sym (replaced.others node other) ∙ at in
                nothing-held node relay (ready.works node relay was) (ready.nothing node relay other was)
          ];
          shown = λ node relay at. elim (cases_Bool (node == code.net.source)) [
            | inl same ↦
                let is : node ≡ code.net.source = eqb-true node code.net.source same in
                let found : new ≡ relay = same_Some new relay (sym replaced.at ∙ ap (slice_get after) (sym is) ∙ at) in
                subst (λ (r : Relay). ShowsSent r first) found source-sent
            | inr apart ↦
                let other : node ≢ code.net.source = eqb-false node code.net.source apart in
                let was : slice_get relays node ≡ Some relay = sym (replaced.others node other) ∙ at in
                λ key is. (ready.nothing node relay other was).given key is ∙ sym (not-first node relay key (ready.works node relay was) other is)
          ];
        }

    -- so it is at all sinks
    sinks-shown : ShowSinks code pattern window sinks []
    sinks-shown =
        record {
          count = ready.receivers.count;
          at = λ node sink found.
              at_place (λ place sink. IsReadySink code (demand_of code pattern place) window sink)
              (λ place sink. ShowsSink code (demand_of code pattern place) window sink [])
              (λ place sink is. sink-held (demand_of code pattern place) sink is) (place_of code node) sink (ready.receivers.at node sink found);
        }

    -- and what was put flies
    more-fly : (faithful : Bool) (old_flight new_flight : InFlight) → window.first + length window.blocks ≤ 2 ^ 32 → old_flight.flying ≡ []
        → FollowMoves faithful (puts_of more) old_flight new_flight → PutsFly more [] new_flight.flying
    more-fly faithful old_flight new_flight short quiet follows =
        subst (λ (flying : List Flight). PutsFly more flying new_flight.flying) quiet
        (puts-fly faithful more old_flight new_flight (All-permutation Fits first more gives-first (first-fit short)) follows
        (subst (All IsPair) (sym quiet) (All-nil IsPair)))

-- so the state that is shown then is the opening one
pub opened : (code : Code) (pattern : ℕ) (window : Window) (relays after : List Relay) (sinks : List (Option Receiver)) (source new : Relay)
    (more : List Packet) (faithful : Bool) (old_flight new_flight : InFlight) → window.first + length window.blocks ≤ 2 ^ 32
    → AreReady code pattern window relays sinks → slice_get relays code.net.source ≡ Some source
    → GivesEach source more new → ((key : Key) → IsDue new key → ⊥) → IsReplaced code.net.source new relays after
    → old_flight.flying ≡ [] → FollowMoves faithful (puts_of more) old_flight new_flight
    → IsShown code pattern window after sinks new_flight.flying (opening code pattern window)
opened code pattern window relays after sinks source new more faithful old_flight new_flight short ready at_source each none replaced quiet follows =
    let fly = more-fly code pattern window relays after sinks source new more ready at_source each none replaced
    faithful old_flight new_flight short quiet follows in
    let flies : IsPermutation more (packets_in new_flight.flying) =
    subst (λ (packets : List Packet). IsPermutation packets (packets_in new_flight.flying)) (append-nil more) fly.flies in
    record {
      nodes = nodes-shown code pattern window relays after sinks source new more ready at_source each none replaced;
      receivers = sinks-shown code pattern window relays after sinks source new more ready at_source each none replaced;
      flies = IsPermutation-trans (first code pattern window) more (packets_in new_flight.flying)
          (gives-first code pattern window relays after sinks source new more ready at_source each none replaced) flies;
      pairs = fly.pairs;
    }
