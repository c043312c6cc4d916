-- The sink at a place of a runner that has carried a window: it stands at the node of that place, and has all that it decodes.
use Rattle.std.specs.Prelude.{◌≡◌, ◌≢◌, ◌<◌, ◌≤◌, ◌==◌, ◌+◌, ◌-◌, ◌*◌, ℕ, Bool, true, List, [], None, Option, Some, cond, length, nat_eq, nat_lt, position, slice_get, slice_index_or}
use Rattle.std.specs.List.{AllPairs, position_or_len}
use Rattle.std.proofs.Common.{◌∙◌, ap, arith, get_or, subst, sym}
use Rattle.std.proofs.lemmas.Bool.{and_parts, eq-eqb, lt-ltb, ltb-true, ne_eqb}
use Rattle.std.proofs.lemmas.Bool.Decides.{Decides-eqb}
use Rattle.std.proofs.lemmas.List.Sums.{position_or_len_is}
use Rattle.std.proofs.lemmas.Map.Made.{AllPairs-from_IsDistinct}
use Rattle.std.proofs.lemmas.Option.{get_or_from_slice_get, same_Some, slice_get-get_or, slice_get_within}
use Rattle.coded_traffic.specs.Traffic.{Key, Window, block_at}
use Rattle.generation_frame.specs.Blocks.{row_bytes}
use Rattle.generation_frame.specs.declared.frame.Packet.{Packet}
use Rattle.lif_outside.specs.Moves.{Move, flights_given}
use Rattle.item_list.proofs.Tests.{passes_at}
use Rattle.net_model.proofs.ListLaws.{IsDistinct-from_are_distinct}
use Rattle.net_model.specs.Lists.{are_distinct}
use Rattle.net_model.specs.Network.{is_sink_among}
use Rattle.node_plans.specs.Plans.{place_of}
use Rattle.node_program.specs.Decoding.{IsAccepted}
use Rattle.node_program.specs.declared.code.Code.{Code}
use Rattle.node_stations.proofs.DecodedLaws.{decoded-same}
use Rattle.node_stations.specs.Decoded.{decoded_of}
use Rattle.node_stations.specs.Opening.{IsAt, demand_of}
use Rattle.node_stations.specs.Shown.{ShowsSink}
use Rattle.relay_core.specs.Core.{Delivery, IsFaithful, RelayState, payload_of}
use Rattle.relay_node.specs.Relay.{Relay}
use Rattle.sink_decoder.specs.Receiving.{IsBegun, Receiver, SinkPlan, decoded, is_whole}
use Rattle.relay_runner.proofs.FaithfulLaws.{decodes-of, held-of, quiet}
use Rattle.relay_runner.proofs.GivenLaws.{payload-flights}
use Rattle.relay_runner.proofs.WholeLaws.{sink-decoded, sink-whole}
use Rattle.relay_runner.specs.Carried.{HasCarriedBy, packets_given}
use Rattle.relay_runner.specs.Decoding.{CanDecode, HasAll, HasDecoded, StandsAt, block_in}
use Rattle.relay_runner.specs.Running.{HasCarried, IsRunning, Running}

-- of distinct numbers, one is found first at its place
position-distinct : (xs : List ℕ) (place x : ℕ) → are_distinct nat_eq xs ≡ true → slice_get xs place ≡ Some x → position (λ one. one == x) xs ≡ Some place
position-distinct xs place x distinct at =
    let within : place < length xs = slice_get_within xs place x at in
    let is : get_or xs place 0 ≡ x = get_or_from_slice_get xs place x 0 at in
    let apart : AllPairs (λ a b. a ≢ b) xs = AllPairs-from_IsDistinct Decides-eqb xs (IsDistinct-from_are_distinct nat_eq xs distinct) in
    let here : position_or_len (λ one. one == x) xs ≡ place =
    position_or_len_is (λ one. one == x) xs place 0 (omega (arith, within))
    (λ before earlier. ne_eqb (get_or xs before 0) x (λ same. apart before place 0 earlier within (same ∙ sym is)))
    (λ _. eq-eqb (get_or xs place 0) x is) in
    ap (λ (n : ℕ). cond (nat_lt n (length xs)) (Some n) None) here
    ∙ ap (λ (b : Bool). cond b (Some place) None) (lt-ltb place (length xs) within)

module _ (code : Code) (place node : ℕ) (at : slice_get code.net.sinks place ≡ Some node) where
  -- the place is one of the sinks'
  place-within : place < length code.net.sinks
  place-within = slice_get_within code.net.sinks place node at

  -- the node of a sink is one of the nodes
  node-within : node < length code.net.nodes
  node-within =
      let test = passes_at (is_sink_among (length code.net.nodes) code.net.source) code.net.sinks place 0 code.net.network.sink_nodes place-within in
      subst (λ n. n < length code.net.nodes) (get_or_from_slice_get code.net.sinks place node 0 at) (ltb-true _ _ (and_parts _ _ test).0)

  -- its place is that one
  place-is : place_of code node ≡ Some place
  place-is = position-distinct code.net.sinks place node code.net.network.distinct_sinks at

  module _ (pattern : ℕ) (window : Window) (run : List Delivery) (relays : List Relay) (sinks : List (Option Receiver)) (state : RelayState)
      (running : IsRunning code pattern window run relays sinks [] state) where
    abbrev Showing : ℕ → Receiver → Type 0
    Showing place sink = ShowsSink code (demand_of code pattern place) window sink state.held

    -- a sink stands there, which shows what is held
    stands : (sink : Option Receiver) → slice_get sinks node ≡ Some sink → IsAt Showing (Some place) sink
    stands sink found = subst (λ (o : Option ℕ). IsAt Showing o sink) place-is (running.shown.receivers.at node sink found)

    module _ (sink : Receiver) (found : slice_get sinks node ≡ Some (Some sink)) where
      shows : ShowsSink code (demand_of code pattern place) window sink state.held
      shows = let is = stands (Some sink) found in subst (Showing place) (sym (same_Some sink is.0 is.1)) is.2

      -- each generation of the window is whole
      whole-there : (generation : ℕ) → IsBegun sink generation → is_whole sink generation ≡ true
      whole-there generation begun =
          sink-whole code pattern window run state running.is_run (quiet code pattern window run relays sinks state running) place place-within running.pattern_is sink shows running.is_window.blocks generation
          (omega (arith, shows.first, begun.from_first)) (omega (arith, shows.first, shows.count, begun.to_last))

      -- what it decodes of one is decoded of what is held
      decoded-there : (generation : ℕ) → IsBegun sink generation → decoded sink generation ≡ decoded_of code (demand_of code pattern place) state.held generation
      decoded-there generation begun =
          sink-decoded code pattern window run state running.is_run (quiet code pattern window run relays sinks state running) place place-within running.pattern_is sink shows running.is_window.blocks generation
          (omega (arith, shows.first, begun.from_first)) (omega (arith, shows.first, shows.count, begun.to_last))

      -- and by faithful links it is the block
      block-of : IsAccepted code → IsFaithful run → (generation : ℕ) → IsBegun sink generation → decoded sink generation ≡ block_at window generation
      block-of accepted faithful generation begun =
          let from_first : window.first ≤ generation = omega (arith, shows.first, begun.from_first) in
          let to_last : generation < window.first + length window.blocks = omega (arith, shows.first, shows.count, begun.to_last) in
          decoded-there generation begun
          ∙ decodes-of code pattern window run relays sinks state running accepted place generation place-within from_first to_last state.held
          (held-of code pattern window run relays sinks state running faithful generation from_first to_last)

-- the receiver at the node of each sink, of a runner that has carried a window
module _ (runner : Running) (carried : HasCarried runner) where
  -- there is one
  receiver-at : (place : ℕ) → place < length runner.code.net.sinks → (receiver : Receiver) × StandsAt runner.code runner.sinks place receiver
  receiver-at place within =
      let node = get_or runner.code.net.sinks place 0 in
      let at : slice_get runner.code.net.sinks place ≡ Some node = slice_get-get_or runner.code.net.sinks place 0 within in
      let sink : Option Receiver = get_or runner.sinks node None in
      let found : slice_get runner.sinks node ≡ Some sink =
      slice_get-get_or runner.sinks node None (omega (arith, node-within runner.code place node at, carried.running.shown.receivers.count)) in
      let stand =
      stands runner.code place node at runner.pattern carried.window carried.run runner.relays runner.sinks carried.state carried.running sink found in
      (stand.0, record { node = node; at = at; found = found ∙ ap (λ (sink : Option Receiver). Some sink) stand.1 })

  module _ (place : ℕ) (sink : Receiver) (there : StandsAt runner.code runner.sinks place sink) where
    -- what it shows of a window that was carried
    shown : (window : Window) (run : List Delivery) (state : RelayState)
        → IsRunning runner.code runner.pattern window run runner.relays runner.sinks [] state
        → ShowsSink runner.code (demand_of runner.code runner.pattern place) window sink state.held
    shown window run state running =
        shows runner.code place there.node there.at runner.pattern window run runner.relays runner.sinks state running sink there.found

    own : ShowsSink runner.code (demand_of runner.code runner.pattern place) carried.window sink carried.state.held
    own = shown carried.window carried.run carried.state carried.running

    module _ (number : ℕ) (low : number < runner.count) where
      -- the generation was begun
      begun-there : IsBegun sink (runner.first + number)
      begun-there = record {
        from_first = omega (arith, carried.same_first, own.first);
        to_last = omega (arith, carried.same_first, carried.same_count, own.first, own.count, low);
      }

      -- what it decodes of the generation is decoded of the packets that links gave
      decoded-given : (moves : List Move) → HasCarriedBy runner moves
          → decoded sink (runner.first + number)
          ≡ decoded_of runner.code (demand_of runner.code runner.pattern place) (packets_given moves) (runner.first + number)
      decoded-given moves by =
          let same : (key : Key) → payload_of by.state.held key ≡ payload_of (packets_given moves) key =
          λ key.
          ap (λ (packets : List Packet). payload_of packets key) by.held
          ∙ payload-flights runner.code runner.pattern by.window by.run by.state (flights_given moves) by.running.is_window.last by.running.is_run by.gives key in
          decoded-there runner.code place there.node there.at runner.pattern by.window by.run runner.relays runner.sinks by.state by.running sink there.found
          (runner.first + number) begun-there
          ∙ decoded-same runner.code (demand_of runner.code runner.pattern place) by.state.held (packets_given moves) (runner.first + number)
          (λ link piece among live low. same (record { link = link; generation = runner.first + number; piece = piece }))

      -- and by faithful links it is the block of that place
      block-there : IsAccepted runner.code → (window : Window) (run : List Delivery) (state : RelayState)
          → IsRunning runner.code runner.pattern window run runner.relays runner.sinks [] state → IsFaithful run
          → decoded sink (runner.first + number) ≡ slice_index_or window.blocks number []
      block-there accepted window run state running faithful =
          let from_first : (runner.first + number) - window.first ≡ number =
          omega (arith, carried.same_first, own.first, (shown window run state running).first) in
          block-of runner.code place there.node there.at runner.pattern window run runner.relays runner.sinks state running sink there.found accepted faithful
          (runner.first + number) begun-there
          ∙ ap (λ n. slice_index_or window.blocks n []) from_first

    -- it has all of the generations carried
    has-all : HasAll runner.code.rate runner.first runner.count sink
    has-all = record {
      same_rate = ap (λ (plan : SinkPlan). plan.rate) own.plan;
      begun = begun-there;
      whole = λ number low.
          whole-there runner.code place there.node there.at runner.pattern carried.window carried.run runner.relays runner.sinks carried.state carried.running
          sink there.found (runner.first + number) (begun-there number low);
    }

  -- so the sinks can decode
  pub can-decode : CanDecode runner.code runner.sinks runner.first runner.count
  can-decode = record {
    few_blocks = omega (arith, carried.same_count, carried.running.is_window.few_blocks);
    last = omega (arith, carried.same_first, carried.same_count, carried.running.is_window.last);
    stands = receiver-at;
    all = has-all;
  }

-- what a sink decoded, of a runner that has decoded a window
module _ (runner : Running) (is : HasDecoded runner) (sink place : ℕ) (within : sink < length runner.code.net.sinks) (low : place < runner.count) where
  abbrev block : List ℕ
  block = block_in (runner.code.rate * row_bytes) (slice_index_or runner.decoded sink []) place

  -- is decoded of the packets that links gave
  pub block-given : (moves : List Move) → HasCarriedBy runner moves
      → block ≡ decoded_of runner.code (demand_of runner.code runner.pattern sink) (packets_given moves) (runner.first + place)
  block-given moves by =
      let there = receiver-at runner is.carried sink within in
      is.blocks sink within there.0 there.1 place low ∙ decoded-given runner is.carried sink there.0 there.1 place low moves by

  -- and by faithful links it is the block that was carried
  pub block-carried : IsAccepted runner.code → (window : Window) (run : List Delivery) (state : RelayState)
      → IsRunning runner.code runner.pattern window run runner.relays runner.sinks [] state → IsFaithful run
      → block ≡ slice_index_or window.blocks place []
  block-carried accepted window run state running faithful =
      let there = receiver-at runner is.carried sink within in
      is.blocks sink within there.0 there.1 place low
      ∙ block-there runner is.carried sink there.0 there.1 place low accepted window run state running faithful
