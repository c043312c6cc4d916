-- A run of a window at work: how it begins, goes on and ends.
use Rattle.std.specs.Prelude.{◌≡◌, ◌<◌, ◌≤◌, ◌∷◌, ◌++◌, ℕ, Bool, false, List, [], Option, Some, get_or, length, slice_get}
use Rattle.std.specs.List.{list_any}
use Rattle.std.proofs.Common.{arith, ap, refl, subst, sym, ◌∙◌}
use Rattle.std.proofs.lemmas.List.{length-map}
use Rattle.coded_traffic.specs.Traffic.{Window, room_for}
use Rattle.lif_outside.specs.Calls.{MakesMoves}
use Rattle.lif_outside.specs.LinksAccounts.{holding}
use Rattle.lif_outside.specs.Moves.{InFlight, Move, took_none}
use Rattle.lif_outside.specs.declared.links.Links.{Ghosts as LinksGhosts}
use Rattle.node_program.specs.declared.code.Code.{Code}
use Rattle.node_stations.proofs.PuttingLaws.{puts-fly}
use Rattle.node_stations.specs.Putting.{HasRoom, PutsDue, StopsPutting, puts_of}
use Rattle.node_stations.specs.Shown.{IsFedAll, IsReplaced}
use Rattle.node_stations.specs.Table.{ArePlanned, relays_of, sinks_of}
use Rattle.node_stations.specs.declared.station.Station.{Station}
use Rattle.relay_core.specs.Core.{Delivery, RelayState}
use Rattle.relay_node.specs.Relay.{Relay}
use Rattle.sink_decoder.specs.Receiving.{Receiver}
use Rattle.relay_runner.proofs.CountLaws.{room-first}
use Rattle.relay_runner.proofs.MeasureLaws.{Account, left, steps-less, steps-room}
use Rattle.relay_runner.proofs.PlannedLaws.{planned}
use Rattle.relay_runner.proofs.StationLaws.{node-at, node-replaced, same-sinks, with_node}
use Rattle.relay_runner.proofs.StoppingLaws.{stops-first}
use Rattle.relay_runner.proofs.UnderwayLaws.{busy-first, busy-more, carries, has_carried, stops-carrying, underway-first, underway-more, underway-none}
use Rattle.relay_runner.specs.Carried.{IsStopped}
use Rattle.relay_runner.specs.Carrying.{Carries, IsUnderway, finds_nothing}
use Rattle.relay_runner.specs.Runner.{IsSameWork}
use Rattle.relay_runner.specs.Running.{CanStart, HasCarried, IsRunning, Running, Starts}
use Rattle.relay_runner.specs.Stepping.{Steps, StopsStepping}

-- A runner that is carrying a window over links that have room for it: whatever window it has begun, the calls are a run of it.
pub record IsOnWay {L : Type 0} (g : LinksGhosts L) (start now : Running) (before after : L) : Type 0 where
  pub room : room_for now.code ≤ g.room after
  pub works : now.has_failed ≡ false
  pub work : IsSameWork start now
  pub can : CanStart start
  pub under : (window : Window) → Starts start.code start.pattern window start.relays start.sinks
      → IsUnderway g start.code start.pattern window before after now.relays now.sinks
  pub busy : (window : Window) (starts : Starts start.code start.pattern window start.relays start.sinks)
      → list_any finds_nothing (under window starts).moves ≡ false

-- links of which the calls can be joined
abbrev pub Joins : {L : Type 0} → LinksGhosts L → Type 0
Joins {L} g = (first later : List Move) (a b c : L) → g.moves first a b → g.moves later b c → g.moves (first ++ later) a c

-- The source's station, which puts what its node gives where nothing flies.
module _ {L : Type 0} (g : LinksGhosts L) {F : Type 0} (code : Code) (pattern : ℕ) (stations : List (Station F)) (place : ℕ) (station : Station F)
    (place_is : place ≡ code.net.source) (is : station ≡ get_or stations place station) (before : L) (quiet : g.flying before ≡ []) where
  -- the stations where its node is another
  abbrev after_puts : Relay → List (Station F)
  after_puts = with_node stations place station is

  module _ (window : Window) (starts : Starts code pattern window (relays_of stations) (sinks_of stations)) where
    below : place < length stations
    below = omega (arith, place_is, starts.ready.count, code.net.network.source_node, length-map stations (λ s. s.node))

    at_source : slice_get (relays_of stations) code.net.source ≡ Some station.node
    at_source = ap (slice_get (relays_of stations)) (sym place_is) ∙ node-at stations place station is below

    replaced : (new : Relay) → IsReplaced code.net.source new (relays_of stations) (relays_of (after_puts new))
    replaced new =
        subst (λ (n : ℕ). IsReplaced n new (relays_of stations) (relays_of (after_puts new))) place_is (node-replaced stations place station is below new)

    -- there is room for what it gives
    pub first-room : room_for code ≤ g.room before → HasRoom g before station.node
    first-room room packets new gives =
        let fed : IsFedAll code pattern window station.node = starts.ready.source station.node at_source in
        omega (arith, room, ap length quiet, room-first code pattern window station.node new packets starts.is_window.few_blocks fed gives)

    -- where a put fails
    pub first-stops : (new : Relay) (after : L) → StopsPutting g before after station.node new
        → MakesMoves g before after (IsStopped (g.faithful before) code pattern window)
    first-stops new after stops =
        stops-first g code pattern window (relays_of stations) (sinks_of stations) starts station.node new at_source stops.packets stops.last stops.given
        before after stops.calls

    -- what it puts is the run of no steps
    first-busy-under : Account g → (new : Relay) (after : L) → PutsDue g before after station.node new
        → (under : IsUnderway g code pattern window before after (relays_of (after_puts new)) (sinks_of (after_puts new)))
        × (list_any finds_nothing under.moves ≡ false)
    first-busy-under accounts new after due =
        subst (λ (sinks : List (Option Receiver)). (under : IsUnderway g code pattern window before after (relays_of (after_puts new)) sinks)
        × (list_any finds_nothing under.moves ≡ false))
        (sym (same-sinks stations place station is new)) (
          underway-first g code pattern window accounts (relays_of stations) (sinks_of stations) starts station.node new at_source due.puts.packets
              due.puts.given due.none (relays_of (after_puts new)) (replaced new) before after quiet due.puts.calls,
          busy-first g code pattern window accounts (relays_of stations) (sinks_of stations) starts station.node new at_source due.puts.packets
              due.puts.given due.none (relays_of (after_puts new)) (replaced new) before after quiet due.puts.calls,
        )

    pub first-under : Account g → (new : Relay) (after : L) → PutsDue g before after station.node new
        → IsUnderway g code pattern window before after (relays_of (after_puts new)) (sinks_of (after_puts new))
    first-under accounts new after due = (first-busy-under accounts new after due).0

    -- none of it is a take
    pub first-busy : (accounts : Account g) (new : Relay) (after : L) (due : PutsDue g before after station.node new)
        → list_any finds_nothing (first-under accounts new after due).moves ≡ false
    unfolding first-under
    first-busy accounts new after due = (first-busy-under accounts new after due).1

    -- and the stations keep their plans
    pub first-planned : Account g → (new : Relay) (after : L) → PutsDue g before after station.node new
        → ArePlanned code pattern (relays_of (after_puts new)) (sinks_of (after_puts new))
    first-planned accounts new after due =
        let under = first-under accounts new after due in
        planned code pattern window under.run (relays_of (after_puts new)) (sinks_of (after_puts new)) (g.flying after) under.state under.running

  -- a runner with these stations, and what it is then
  abbrev at_work : ℕ → ℕ → ℕ → List (List ℕ) → Bool → List (Station F) → Running
  at_work first count next decoded failed made =
      record {
        code = code;
        pattern = pattern;
        relays = relays_of made;
        sinks = sinks_of made;
        first = first;
        count = count;
        next = next;
        decoded = decoded;
        has_failed = failed;
      }

  -- it is on its way
  pub first-way : Account g → (first count next : ℕ) (decoded : List (List ℕ)) (failed : Bool) (start : Running)
      → at_work first count next decoded failed stations ≡ start
      → start.has_failed ≡ false → CanStart start → room_for start.code ≤ g.room before
      → (new : Relay) (after : L) → PutsDue g before after station.node new
      → IsOnWay g start (at_work first count next decoded failed (after_puts new)) before after
  first-way accounts first count next decoded failed start view works can room new after due =
      let follows = (accounts (puts_of due.puts.packets) before after due.puts.calls).follows in
      let held = holding g.flying g.room g.opened_with g.repeats in
      let now = at_work first count next decoded failed (after_puts new) in
      subst (λ (runner : Running). IsOnWay g runner now before after) view (record {
        room =
            omega (
              arith,
              subst (λ (runner : Running). room_for runner.code ≤ g.room before) (sym view) room,
              (puts-fly (g.faithful before) due.puts.packets (held before) (held after) follows).room,
            );
        works = ap (λ (runner : Running). runner.has_failed) view ∙ works;
        work = record { code = refl; pattern = refl; first = refl; count = refl; next = refl };
        can = subst CanStart (sym view) can;
        under = λ window starts. first-under window starts accounts new after due;
        busy = λ window starts. first-busy window starts accounts new after due;
      })

-- what is said of the code and the pattern of a runner, said of those with which it began
on-same : (P : Code → ℕ → Type 0) (start now : Running) → IsSameWork start now → P now.code now.pattern → P start.code start.pattern
on-same P start now work p =
    subst (λ (pattern : ℕ). P start.code pattern) work.pattern (subst (λ (code : Code). P code now.pattern) work.code p)

module _ {L : Type 0} (g : LinksGhosts L) (start now : Running) (before mid : L) (way : IsOnWay g start now before mid) where
  -- a turn that moved
  abbrev Moves : L → Running → Code → ℕ → Type 0
  Moves after next code pattern =
      (window : Window) (run : List Delivery) (state : RelayState) → IsRunning code pattern window run now.relays now.sinks (g.flying mid) state
      → Steps g code pattern window run state mid after next.relays next.sinks

  module _ (accounts : Account g) (next : Running) (after : L) (same : IsSameWork now next) (moves : Moves after next now.code now.pattern) where
    -- the step that it is
    step : (window : Window) (starts : Starts start.code start.pattern window start.relays start.sinks)
        → Steps g start.code start.pattern window (way.under window starts).run (way.under window starts).state mid after next.relays next.sinks
    step window starts =
        let under = way.under window starts in
        on-same (Moves after next) start now way.work moves window under.run under.state under.running

    -- the work is the same from the start
    still : IsSameWork start next
    still =
        record {
          code = same.code ∙ way.work.code;
          pattern = same.pattern ∙ way.work.pattern;
          first = same.first ∙ way.work.first;
          count = same.count ∙ way.work.count;
          next = same.next ∙ way.work.next;
        }

    -- the runner goes on
    pub onward : Joins g → next.has_failed ≡ false → IsOnWay g start next before after
    onward joins works =
        let under = way.under way.can.window way.can.starts in
        record {
          room =
              omega (
                arith,
                way.room,
                ap (λ (code : Code). length code.net.links) same.code,
                steps-room g start.code start.pattern way.can.window under.run under.state mid after next.relays next.sinks
                    (step way.can.window way.can.starts) accounts,
              );
          works = works;
          work = still;
          can = way.can;
          under = λ window starts.
              underway-more g start.code start.pattern window accounts joins before mid after now.relays now.sinks next.relays next.sinks
              (way.under window starts) (step window starts);
          busy = λ window starts.
              busy-more g start.code start.pattern window accounts joins before mid after now.relays now.sinks next.relays next.sinks
              (way.under window starts) (step window starts) (way.busy window starts);
        }

    -- and what is left to be done is less
    pub nearer : left g next.code next.pattern next.first next.count after next.relays < left g now.code now.pattern now.first now.count mid now.relays
    nearer =
        let under = way.under way.can.window way.can.starts in
        let less = steps-less g start.code start.pattern way.can.window under.run under.state mid after next.relays next.sinks now.relays now.sinks
        under.running (step way.can.window way.can.starts) accounts in
        omega (arith, less, left-is next still after, left-is now way.work mid)
      where
        left-is : (runner : Running) → IsSameWork start runner → (links : L)
            → left g runner.code runner.pattern runner.first runner.count links runner.relays
            ≡ left g start.code start.pattern way.can.window.first (length way.can.window.blocks) links runner.relays
        left-is runner work links =
            ap (λ (code : Code). left g code runner.pattern runner.first runner.count links runner.relays) work.code
            ∙ ap (λ (pattern : ℕ). left g start.code pattern runner.first runner.count links runner.relays) work.pattern
            ∙ ap (λ (first : ℕ). left g start.code start.pattern first runner.count links runner.relays) (work.first ∙ way.can.same_first)
            ∙ ap (λ (count : ℕ). left g start.code start.pattern way.can.window.first count links runner.relays) (work.count ∙ way.can.same_count)

  -- a turn that failed
  abbrev Stops : L → Code → ℕ → Type 0
  Stops after code pattern =
      (window : Window) (run : List Delivery) (state : RelayState) → IsRunning code pattern window run now.relays now.sinks (g.flying mid) state
      → StopsStepping g code pattern window run state mid after

  pub way-stops : Account g → Joins g → (after : L) → Stops after now.code now.pattern
      → (window : Window) → Starts start.code start.pattern window start.relays start.sinks
      → MakesMoves g before after (IsStopped (g.faithful before) start.code start.pattern window)
  way-stops accounts joins after stops window starts =
      let under = way.under window starts in
      stops-carrying g start.code start.pattern window accounts joins before mid after now.relays now.sinks under
      (on-same (Stops after) start now way.work stops window under.run under.state under.running)

  -- a turn at which nothing flew
  pub way-ends : Account g → Joins g → (next : Running) (after : L) → next ≡ now → g.flying mid ≡ [] → g.moves (took_none ∷ []) mid after
      → (window : Window) → Starts start.code start.pattern window start.relays start.sinks
      → Carries g start.code start.pattern window before after next.relays next.sinks
  way-ends accounts joins next after same quiet none window starts =
      let under = way.under window starts in
      let ended = underway-none g start.code start.pattern window accounts joins before mid after now.relays now.sinks under none in
      let follows = (accounts (took_none ∷ []) mid after none).follows in
      let still_quiet : g.flying after ≡ [] = ap (λ (held : InFlight). held.flying) follows.2 ∙ follows.1.1.same_flying ∙ quiet in
      subst (λ (runner : Running). Carries g start.code start.pattern window before after runner.relays runner.sinks) (sym same)
      (carries g start.code start.pattern window before after now.relays now.sinks ended.0 under.moves ended.1 (way.busy window starts) still_quiet)

-- a runner that has carried the window of its first number and its count
pub has-carried : {L : Type 0} (g : LinksGhosts L) (start now : Running) → IsSameWork start now → (window : Window) → start.first ≡ window.first
    → start.count ≡ length window.blocks → (before after : L)
    → Carries g start.code start.pattern window before after now.relays now.sinks → HasCarried now
has-carried g start now work window same_first same_count before after carries =
    has_carried g now window (work.first ∙ same_first) (work.count ∙ same_count) before after
    (subst (λ (code : Code). Carries g code now.pattern window before after now.relays now.sinks) (sym work.code)
    (subst (λ (pattern : ℕ). Carries g start.code pattern window before after now.relays now.sinks) (sym work.pattern) carries))
