-- A window that was carried, told by the calls on the links alone.
use Rattle.std.specs.Prelude.{◌≡◌, ◌<◌, ◌≤◌, ◌+◌, ◌||◌, ◌∷◌, ◌↔◌, ℕ, Bool, true, List, [], Option, count_by, length, map}
use Rattle.std.proofs.Common.{◌∙◌, ap, arith, subst, sym}
use Rattle.std.proofs.Math.Bool.{or-false}
use Rattle.coded_traffic.specs.Traffic.{IsKey, Key, Window, block_at, is_same_key, key_of}
use Rattle.generation_frame.specs.declared.frame.Packet.{Packet}
use Rattle.lif_outside.specs.Moves.{Move, flights_given}
use Rattle.lif_outside.specs.declared.links.Flight.{Flight}
use Rattle.lif_outside.specs.declared.links.Links.{Ghosts as LinksGhosts}
use Rattle.node_program.specs.Decoding.{IsAccepted}
use Rattle.node_program.specs.declared.code.Code.{Code}
use Rattle.node_stations.specs.Decoded.{decoded_of}
use Rattle.node_stations.specs.Opening.{demand_of}
use Rattle.node_stations.specs.Putting.{flight_of}
use Rattle.relay_core.proofs.ListLaws.{or_turned}
use Rattle.relay_core.proofs.PacketLaws.{has_key-held_after}
use Rattle.relay_core.specs.Core.{Delivery, IsFaithful, RelayState, has_key, held_after, held_of, payload_of}
use Rattle.relay_core.specs.Runs.{AreRelayed, Reaches}
use Rattle.relay_node.specs.Relay.{Relay}
use Rattle.sink_decoder.specs.Receiving.{Receiver}
use Rattle.relay_runner.proofs.CameLaws.{relayed-told}
use Rattle.relay_runner.proofs.FaithfulLaws.{decodes-of, held-of, held-sent, quiet}
use Rattle.relay_runner.proofs.GivenLaws.{packets_in-given, payload-flights, run-fit}
use Rattle.relay_runner.proofs.WellLaws.{one_empty}
use Rattle.relay_runner.specs.Carried.{CarriesWindow, HasCarriedBy}
use Rattle.relay_runner.specs.Carrying.{Carries, finds_nothing}
use Rattle.relay_runner.specs.Decoding.{with_decoded}
use Rattle.relay_runner.specs.Delivered.{packet_given}
use Rattle.relay_runner.specs.Runner.{IsSameWork}
use Rattle.relay_runner.specs.Running.{IsRunning, Running}
use Rattle.relay_runner.specs.Showing.{packets_in}

-- the keys held after some deliveries are those held before and those given
has-held_of : (key : Key) (run : List Delivery) (held : List Packet) → has_key key (held_of run held) ≡ (has_key key held || has_key key (map packet_given run))
has-held_of key [] held = sym (or-false (has_key key held))
has-held_of key (delivery ∷ run) held =
    has-held_of key run (held_after delivery held)
    ∙ ap (λ (b : Bool). b || has_key key (map packet_given run)) (has_key-held_after key delivery held)
    ∙ sym (or_turned (has_key key held) (is_same_key (key_of delivery.pair) key) (has_key key (map packet_given run)))

module _ (code : Code) (pattern : ℕ) (window : Window) (run : List Delivery) (relays : List Relay) (sinks : List (Option Receiver)) (state : RelayState)
    (running : IsRunning code pattern window run relays sinks [] state) (reaches : Reaches code pattern window run state)
    (held : state.held ≡ held_of run []) where
  -- nothing flies in the state
  nothing : state.flying ≡ []
  nothing = quiet code pattern window run relays sinks state running

  -- what was sent are the keys of the traffic
  sent-is : (key : Key) → (has_key key state.sent ≡ true) ↔ IsKey code pattern window key
  sent-is key = (reaches.of_traffic key, reaches.all_sent nothing key)

  module _ (given : List Flight) (gives : given ≡ map (λ delivery. flight_of (packet_given delivery)) run) where
    -- the packets that the links gave are those of the deliveries
    packets-are : packets_in given ≡ map packet_given run
    packets-are =
        ap (λ (flights : List Flight). packets_in flights) gives
        ∙ packets_in-given run (run-fit code pattern window run state running.is_window.last running.is_run)

    -- their keys are those of the traffic
    came-is : (key : Key) → (has_key key (packets_in given) ≡ true) ↔ IsKey code pattern window key
    came-is key =
        let same : has_key key (packets_in given) ≡ has_key key state.sent =
        ap (has_key key) packets-are
        ∙ sym (has-held_of key run [])
        ∙ ap (has_key key) (sym held)
        ∙ held-sent code pattern window run relays sinks state running key in
        (λ has. reaches.of_traffic key (sym same ∙ has), λ is. same ∙ reaches.all_sent nothing key is)

    -- and the first payloads are those held
    payload-held : (key : Key) → payload_of state.held key ≡ payload_of (packets_in given) key
    payload-held key =
        ap (λ (packets : List Packet). payload_of packets key) held
        ∙ payload-flights code pattern window run state given running.is_window.last running.is_run gives key

    -- so what was sent comes from the blocks, or is the sum of what came
    relayed-came : AreRelayed code pattern window state.held state.sent → AreRelayed code pattern window (packets_in given) state.sent
    relayed-came = relayed-told code pattern window state.held (packets_in given) state.sent payload-held

    -- where all was given as it was put, each sink decodes what came to the block
    decodes : IsAccepted code → IsFaithful run → (place generation : ℕ) → place < length code.net.sinks → window.first ≤ generation
        → generation < window.first + length window.blocks
        → decoded_of code (demand_of code pattern place) (packets_in given) generation ≡ block_at window generation
    decodes accepted faithful place generation here begun numbered =
        decodes-of code pattern window run relays sinks state running accepted place generation here begun numbered (packets_in given)
        (λ link piece live low.
        sym (payload-held (record { link = link; generation = generation; piece = piece }))
        ∙ held-of code pattern window run relays sinks state running faithful generation begun numbered link piece live low)

-- a runner that has carried the window of its first number and its count has sent it
pub sends : {L : Type 0} (g : LinksGhosts L) (runner : Running) (window : Window) → runner.first ≡ window.first
    → runner.count ≡ length window.blocks → 1 ≤ length window.blocks → IsAccepted runner.code → (before now : L)
    → Carries g runner.code runner.pattern window before now runner.relays runner.sinks → CarriesWindow g window before now runner
sends g runner window same_first same_count some accepted before now carries =
    let under = carries.carried in
    let code = runner.code in
    let pattern = runner.pattern in
    let running : IsRunning code pattern window under.run runner.relays runner.sinks [] under.state =
    subst (λ (flying : List Flight). IsRunning code pattern window under.run runner.relays runner.sinks flying under.state) carries.quiet under.running in
    let given = flights_given under.moves in
    record {
      moves = under.moves;
      calls = under.calls;
      carried = record {
        are_blocks = running.is_window.blocks;
        closed = under.closed;
        well = under.well;
        front = carries.front;
        ended = carries.ended;
        few_empty = omega (arith, some, ap (count_by finds_nothing) carries.ended, one_empty carries.front carries.found);
        packets = under.state.sent;
        puts = under.puts;
        once = carries.reaches.sent_once;
        all = sent-is code pattern window under.run runner.relays runner.sinks under.state running carries.reaches carries.held;
        came = came-is code pattern window under.run runner.relays runner.sinks under.state running carries.reaches carries.held given under.gives;
        relayed = relayed-came code pattern window under.run runner.relays runner.sinks under.state running carries.reaches carries.held given under.gives
            carries.relayed;
        traffic = carries.traffic;
        decoded = λ faithful. decodes code pattern window under.run runner.relays runner.sinks under.state running carries.reaches carries.held given under.gives
            accepted (under.as_put faithful);
      };
      by = record {
        window = window;
        run = under.run;
        state = under.state;
        same_first = same_first;
        same_count = same_count;
        running = running;
        held = carries.held;
        gives = under.gives;
      };
    }

-- and so has one that began it and did the same work
pub has-sent : {L : Type 0} (g : LinksGhosts L) (start now : Running) → IsSameWork start now → (window : Window) → start.first ≡ window.first
    → start.count ≡ length window.blocks → 1 ≤ length window.blocks → IsAccepted start.code → (before after : L)
    → Carries g start.code start.pattern window before after now.relays now.sinks → CarriesWindow g window before after now
has-sent g start now work window same_first same_count some accepted before after carries =
    sends g now window (work.first ∙ same_first) (work.count ∙ same_count) some (subst IsAccepted (sym work.code) accepted) before after
    (subst (λ (code : Code). Carries g code now.pattern window before after now.relays now.sinks) (sym work.code)
    (subst (λ (pattern : ℕ). Carries g start.code pattern window before after now.relays now.sinks) (sym work.pattern) carries))

-- a runner that has carried a window has carried it once it has decoded it
pub by-decoded : (runner : Running) (decoded : List (List ℕ)) (moves : List Move) → HasCarriedBy runner moves → HasCarriedBy (with_decoded runner decoded) moves
by-decoded runner decoded moves by = record {
  window = by.window;
  run = by.run;
  state = by.state;
  same_first = by.same_first;
  same_count = by.same_count;
  running = by.running;
  held = by.held;
  gives = by.gives;
}
