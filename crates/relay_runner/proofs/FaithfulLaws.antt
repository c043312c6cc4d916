-- Where nothing flies and all was given as it was put, what is held decodes to the blocks.
use Rattle.std.specs.Prelude.{◌≡◌, ◌<◌, ◌≤◌, ◌+◌, ◌-◌, ◌||◌, ℕ, All, List, [], Option, length}
use Rattle.std.proofs.Common.{◌∙◌, ap, arith, refl, subst, sym}
use Rattle.std.proofs.lemmas.List.Elements.{All-get_or, All-weaker}
use Rattle.coded_traffic.specs.CodeBlocks.{IsBlockOf}
use Rattle.coded_traffic.specs.Traffic.{IsKey, Key, Window, block_at, key_of, packet_of}
use Rattle.failure_patterns.proofs.DemandLaws.{demand_of_number, number_within}
use Rattle.generation_frame.specs.declared.frame.Packet.{Packet}
use Rattle.net_model.specs.Demands.{pattern_of_demand}
use Rattle.net_model.specs.declared.Demand.{Demand}
use Rattle.node_program.proofs.LiveLaws.{live-below}
use Rattle.node_program.specs.Decoding.{IsAccepted}
use Rattle.node_program.specs.declared.code.Code.{Code}
use Rattle.node_stations.specs.Decoded.{decoded_of}
use Rattle.node_stations.specs.Opening.{demand_of}
use Rattle.relay_core.proofs.PacketLaws.{payload_of-known}
use Rattle.relay_core.proofs.RunLaws.{run-reaches}
use Rattle.relay_core.specs.Core.{Delivery, IsFaithful, RelayState, has_key}
use Rattle.relay_core.specs.Runs.{Reaches}
use Rattle.relay_node.specs.Relay.{Relay}
use Rattle.sink_decoder.specs.Receiving.{Receiver}
use Rattle.relay_runner.proofs.DecodedBlockLaws.{CameOf, decoded-block}
use Rattle.relay_runner.proofs.MeasureLaws.{flying-none}
use Rattle.relay_runner.specs.Running.{IsRunning}

module _ (code : Code) (pattern : ℕ) (window : Window) (run : List Delivery) (relays : List Relay) (sinks : List (Option Receiver)) (state : RelayState)
    (running : IsRunning code pattern window run relays sinks [] state) where
  -- nothing flies in the state
  pub quiet : state.flying ≡ []
  quiet = flying-none state [] running.shown.flies refl

  -- what holds in every run
  pub reaches : Reaches code pattern window run state
  reaches = run-reaches code pattern window run state running.is_window.blocks running.is_run

  -- what is held are the keys that were sent
  pub held-sent : (key : Key) → has_key key state.held ≡ has_key key state.sent
  held-sent key = sym (reaches.sent_is key ∙ ap (λ (flying : List Packet). has_key key flying || has_key key state.held) quiet)

  -- what is held on a live link are the pieces of the block
  pub held-of : IsFaithful run → (generation : ℕ) → window.first ≤ generation → generation < window.first + length window.blocks
      → CameOf code pattern (block_at window generation) state.held generation
  held-of faithful generation begun numbered link piece live low =
      let key : Key = record { link = link; generation = generation; piece = piece } in
      let is_key : IsKey code pattern window key =
      record { begun = begun; numbered = numbered; of_link = live-below code pattern link live; live = live; of_piece = low } in
      let known : Key → List ℕ = λ key. (packet_of code pattern window key).payload in
      let payloads : All (λ packet. packet.payload ≡ known (key_of packet)) state.held =
      All-weaker (λ packet. packet ≡ packet_of code pattern window (key_of packet)) (λ packet. packet.payload ≡ known (key_of packet))
      (λ packet same. ap (λ (p : Packet). p.payload) same) state.held (reaches.faithful faithful).held in
      payload_of-known known key state.held payloads (held-sent key ∙ reaches.all_sent quiet key is_key)

  -- packets that are those pieces decode to the block at each sink
  pub decodes-of : IsAccepted code → (place generation : ℕ) → place < length code.net.sinks → window.first ≤ generation
      → generation < window.first + length window.blocks
      → (came : List Packet) → CameOf code pattern (block_at window generation) came generation
      → decoded_of code (demand_of code pattern place) came generation ≡ block_at window generation
  decodes-of accepted place generation here begun numbered came are =
      let block = block_at window generation in
      let demand : Demand = record { sink = place; pattern = pattern } in
      let of_pattern : pattern_of_demand code.net (demand_of code pattern place) ≡ pattern =
      ap (λ (demand : Demand). demand.pattern) (demand_of_number code.net demand running.pattern_is) in
      decoded-block code (demand_of code pattern place) block accepted (number_within code.net demand here running.pattern_is)
      (All-get_or (IsBlockOf code) window.blocks (generation - window.first) [] (omega (arith, begun, numbered)) running.is_window.blocks)
      came generation
      (subst (λ (pattern : ℕ). CameOf code pattern block came generation) (sym of_pattern) are)
