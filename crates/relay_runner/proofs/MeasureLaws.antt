-- A step leaves less to be done.
use Rattle.std.specs.Prelude.{◌≡◌, ◌<◌, ◌+◌, ◌*◌, ◌++◌, ◌∷◌, ℕ, Bool, IsPermutation, List, [], Option, length}
use Rattle.std.proofs.Common.{arith, ap, inl, inr, ◌∙◌}
use Rattle.std.proofs.lemmas.List.{length-append, nil_from_length}
use Rattle.std.proofs.lemmas.List.Sorted.{length_permutation}
use Rattle.coded_traffic.specs.Traffic.{Window}
use Rattle.generation_frame.specs.declared.frame.Packet.{Packet}
use Rattle.lif_outside.specs.LinksAccounts.{LinksAccounts, holding}
use Rattle.lif_outside.specs.Moves.{FollowMoves, InFlight, IsTaken, Move, took}
use Rattle.lif_outside.specs.declared.links.Flight.{Flight}
use Rattle.lif_outside.specs.declared.links.Links.{Ghosts as LinksGhosts}
use Rattle.node_program.specs.declared.code.Code.{Code}
use Rattle.node_stations.proofs.PuttingLaws.{puts-fly}
use Rattle.node_stations.specs.Putting.{flight_of, puts_of}
use Rattle.relay_core.specs.Core.{Delivery, RelayState}
use Rattle.relay_node.specs.Relay.{Relay}
use Rattle.sink_decoder.specs.Receiving.{Receiver}
use Rattle.relay_runner.proofs.UnsentLaws.{unsent-sent}
use Rattle.relay_runner.specs.Delivered.{packet_given}
use Rattle.relay_runner.specs.Running.{IsRunning}
use Rattle.relay_runner.specs.Showing.{packets_in}
use Rattle.relay_runner.specs.Stepping.{Steps}
use Rattle.relay_runner.specs.Unsent.{unsent}

-- What is left to be done: the repeats, the pairs that fly, and twice the keys that weren't given, since each comes to fly.
abbrev pub left : {L : Type 0} → LinksGhosts L → Code → ℕ → ℕ → ℕ → L → List Relay → ℕ
left g code pattern first count links relays =
    g.repeats links + length (g.flying links) + 2 * unsent code pattern first count relays

-- puts keep the repeats
puts-repeats : (faithful : Bool) (packets : List Packet) (old new : InFlight) → FollowMoves faithful (puts_of packets) old new → new.repeats ≡ old.repeats
puts-repeats faithful [] old new is = ap (λ (held : InFlight). held.repeats) is
puts-repeats faithful (packet ∷ packets) old new is = puts-repeats faithful packets is.0 new is.2 ∙ is.1.same_repeats

-- a take uses up a pair or a repeat
taken-less : (faithful : Bool) (flight : Flight) (old new : InFlight) → IsTaken faithful flight old new
    → new.repeats + length new.flying < old.repeats + length old.flying
taken-less faithful flight old new taken = elim taken.after [
  | inl leaves ↦ omega (arith, leaves.repeats, length_permutation old.flying (taken.pair ∷ new.flying) leaves.flying)
  | inr stays ↦ omega (arith, stays.repeats, ap (length {A = Flight}) stays.same_flying)
]

-- links of which each call accounts for what it does
abbrev pub Account : {L : Type 0} → LinksGhosts L → Type 0
Account {L} g =
    (made : List Move) (old new : L) → g.moves made old new
    → LinksAccounts (holding g.flying g.room g.opened_with g.repeats) g.faithful g.faults g.sent g.given made old new

module _ {L : Type 0} (g : LinksGhosts L) (code : Code) (pattern : ℕ) (window : Window) (run : List Delivery) (state : RelayState) (before after : L)
    (relays_after : List Relay) (sinks_after : List (Option Receiver)) where
  abbrev held : L → InFlight
  held = holding g.flying g.room g.opened_with g.repeats

  -- what was taken, and the pairs that were put then
  record Does (steps : Steps g code pattern window run state before after relays_after sinks_after) : Type 0 where
    pub mid : InFlight
    pub take : IsTaken (g.faithful before) (flight_of (packet_given steps.delivery)) (held before) mid
    pub puts : FollowMoves (g.faithful before) (puts_of steps.more) mid (held after)

  does : (steps : Steps g code pattern window run state before after relays_after sinks_after) → Account g → Does steps
  does steps accounts =
      let follows = (accounts (took (flight_of (packet_given steps.delivery)) ∷ puts_of steps.more) before after steps.calls).follows in
      record { mid = follows.0; take = follows.1; puts = follows.2 }

  -- a step keeps the room
  pub steps-room : Steps g code pattern window run state before after relays_after sinks_after → Account g → g.room after ≡ g.room before
  steps-room steps accounts =
      let done = does steps accounts in
      (puts-fly (g.faithful before) steps.more done.mid (held after) done.puts).room ∙ done.take.as_opened.same_room

  -- and it leaves less to be done
  pub steps-less : (relays : List Relay) (sinks : List (Option Receiver)) → IsRunning code pattern window run relays sinks (g.flying before) state
      → Steps g code pattern window run state before after relays_after sinks_after → Account g
      → left g code pattern window.first (length window.blocks) after relays_after < left g code pattern window.first (length window.blocks) before relays
  steps-less relays sinks running steps accounts =
      let done = does steps accounts in
      omega (
        arith,
        unsent-sent code pattern window run state relays running.is_run running.shown.nodes,
        unsent-sent code pattern window (run ++ steps.delivery ∷ []) steps.next relays_after steps.running.is_run steps.running.shown.nodes,
        ap (length {A = Packet}) steps.sent ∙ length-append steps.more state.sent,
        taken-less (g.faithful before) (flight_of (packet_given steps.delivery)) (held before) done.mid done.take,
        puts-repeats (g.faithful before) steps.more done.mid (held after) done.puts,
        (puts-fly (g.faithful before) steps.more done.mid (held after) done.puts).flying,
      )

-- where nothing flies on links, nothing does in the state
pub flying-none : (state : RelayState) (flying : List Flight) → IsPermutation state.flying (packets_in flying) → flying ≡ [] → state.flying ≡ []
flying-none state flying flies none =
    let empty = ap (λ (all : List Flight). length (packets_in all)) none in
    nil_from_length state.flying (omega (arith, length_permutation state.flying (packets_in flying) flies, empty))
