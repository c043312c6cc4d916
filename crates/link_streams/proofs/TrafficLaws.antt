-- Streams for numbered blocks are read as the traffic of their links, which is summed and decoded to these blocks.
use Rattle.std.specs.Prelude.{◌≡◌, ◌≤◌, ◌<◌, ◌+◌, ◌-◌, ◌*◌, ◌/◌, ◌%◌, ◌==◌, ℕ, zero, suc, Bool, true, false, All, Contains, List, [], ◌∷◌, ◌++◌, filter, get_or, length, map, Ok}
use Rattle.std.proofs.Common.{refl, sym, ap, subst, ◌∙◌, arith, inl, inr}
use Rattle.std.proofs.lemmas.Bool.{cases_Bool, or_left, or_right}
use Rattle.std.proofs.lemmas.List.{get_or-map, get_or_default}
use Rattle.std.proofs.lemmas.List.Concat.{flat_map-cons}
use Rattle.std.proofs.lemmas.List.Elements.{All-append, All-get_or, All-head, All-map, All-nil, All-same, All-tail, All-weaker}
use Rattle.coded_traffic.specs.CodeBlocks.{IsBlockOf}
use Rattle.coded_traffic.specs.Traffic.{IsKey, Key, Window, block_at, key_of, keys_of, live_operands, packet_of, payload_in}
use Rattle.generation_frame.specs.Blocks.{pieces}
use Rattle.generation_frame.specs.declared.frame.Packet.{Packet}
use Rattle.item_list.proofs.Tests.{length-filter-some}
use Rattle.net_model.specs.Demands.{demand_count, pattern_of_demand}
use Rattle.net_model.specs.Lists.{is_rising}
use Rattle.net_model.specs.Walks.{leaves_source}
use Rattle.node_plans.proofs.PlanLaws.{ins-contains}
use Rattle.node_plans.specs.Plans.{ins_of, outs_of}
use Rattle.node_program.proofs.DecodingLaws.{decoder_of_demand}
use Rattle.node_program.proofs.LiveLaws.{live-below, live-reads}
use Rattle.node_program.specs.CodeValue.{is_live_in, reads_live_in}
use Rattle.node_program.specs.Decoding.{IsAccepted}
use Rattle.node_program.specs.Value.{operands_at}
use Rattle.node_program.specs.declared.Operand.{Operand}
use Rattle.node_program.specs.declared.code.Code.{Code}
use Rattle.node_stations.proofs.DecodedLaws.{decoded-same}
use Rattle.node_stations.specs.Decoded.{decoded_of}
use Rattle.relay_core.proofs.FaithfulLaws.{summed-is}
use Rattle.relay_core.proofs.LinkLaws.{IsLiveInto, live_operands-into}
use Rattle.relay_core.proofs.ListLaws.{all_pass}
use Rattle.relay_core.proofs.PacketLaws.{has_key-append, payload_of-known}
use Rattle.relay_core.proofs.TrafficLaws.{has_key-packets}
use Rattle.relay_core.specs.Core.{has_key, has_operands, key_on, packets_of, payload_of}
use Rattle.relay_core.specs.Runs.{AreOfTraffic}
use Rattle.relay_node.proofs.TrafficLaws.{leaves_source-out, live_out, out}
use Rattle.relay_runner.proofs.DecodedBlockLaws.{CameOf, decoded-block}
use Rattle.sink_decoder.proofs.PlaceLaws.{place_of-at}
use Rattle.sink_decoder.specs.Receiving.{is_live_at, links_of, place_of, sink_plan_of, wants}
use Rattle.link_streams.proofs.StreamLaws.{has_place-piece}
use Rattle.link_streams.proofs.TakenLaws.{has_place-key, reads-traffic}
use Rattle.link_streams.specs.Chained.{AreNumbered, IsOfLink, IsStreamFor}
use Rattle.link_streams.specs.Gathering.{wanted_links}
use Rattle.link_streams.specs.Reading.{packets_read}
use Rattle.link_streams.specs.Relaying.{sums_in}
use Rattle.link_streams.specs.Streams.{HasGeneration, IsStream, IsWhole, Stream, all_packets, generation_count, has_place}

-- a stream has the traffic of its link, all of it and nothing else
pub record BringsTraffic (code : Code) (pattern : ℕ) (window : Window) (stream : Stream) : Type 0 where
  pub is_stream : IsStream stream
  pub of_traffic : All (IsOfLink code pattern window stream.link) stream.packets
  pub all : (key : Key) → IsKey code pattern window key → key.link ≡ stream.link → has_key key stream.packets ≡ true

-- so is read what is a stream for blocks
pub stream-reads : (code : Code) (pattern : ℕ) (window : Window) (link : ℕ) (bytes : List ℕ) → AreNumbered code window → IsStreamFor code pattern window link bytes
    → (packets : List Packet) × (packets_read link bytes ≡ Ok packets) × BringsTraffic code pattern window (record { link = link; packets = packets })
stream-reads code pattern window link bytes numbered is =
    let read = reads-traffic code pattern window link numbered is.packets is.of_traffic in (
      read.0,
      ap (packets_read link) is.bytes_are ∙ read.1,
      record {
        is_stream = read.2;
        of_traffic = read.3;
        all = λ key of_traffic here. read.4 key here of_traffic.of_piece (is.all key of_traffic here);
      },
    )

-- the payload of a key of the traffic
abbrev known : Code → ℕ → Window → Key → List ℕ
known code pattern window key = (packet_of code pattern window key).payload

-- so where packets of the traffic have a key, they have its payload
known-payload : (code : Code) (pattern : ℕ) (window : Window) (packets : List Packet) (key : Key) → AreOfTraffic code pattern window packets
    → has_key key packets ≡ true → payload_of packets key ≡ known code pattern window key
known-payload code pattern window packets key are has =
    payload_of-known (known code pattern window) key packets
    (All-weaker (λ packet. packet ≡ packet_of code pattern window (key_of packet)) (λ packet. packet.payload ≡ known code pattern window (key_of packet))
    (λ packet is. ap (λ (packet : Packet). packet.payload) is) packets are)
    has

-- the packets of a stream are those of the traffic
brings-is : (code : Code) (pattern : ℕ) (window : Window) (stream : Stream) → BringsTraffic code pattern window stream
    → AreOfTraffic code pattern window stream.packets
brings-is code pattern window stream brings =
    All-weaker (IsOfLink code pattern window stream.link) (λ packet. packet ≡ packet_of code pattern window (key_of packet)) (λ packet is. is.is)
    stream.packets brings.of_traffic

-- the keys of a live link are of the traffic
pub key-is : (code : Code) (pattern : ℕ) (window : Window) (link generation piece : ℕ) → AreNumbered code window → is_live_in code pattern link ≡ true
    → generation < length window.blocks → piece < pieces → IsKey code pattern window (record { link = link; generation = generation; piece = piece })
key-is code pattern window link generation piece numbered live below low =
    record {
      begun = omega (arith, numbered.from_start);
      numbered = omega (arith, below);
      of_link = live-below code pattern link live;
      live = live;
      of_piece = low;
    }

-- the stream of a live link is whole up to the number of blocks
pub stream-whole : (code : Code) (pattern : ℕ) (window : Window) (stream : Stream) → AreNumbered code window → BringsTraffic code pattern window stream
    → is_live_in code pattern stream.link ≡ true → IsWhole (length window.blocks) stream.packets
stream-whole code pattern window stream numbered brings live place below =
    let key : Key = record { link = stream.link; generation = place / pieces; piece = place % pieces } in
    let is : IsKey code pattern window key =
    key-is code pattern window stream.link (place / pieces) (place % pieces) numbered live (omega (arith, below)) (omega arith) in
    let at : place / pieces * pieces + place % pieces ≡ place = omega arith in
    ap (has_place stream.packets) (sym at) ∙ has_place-key stream.packets key (brings.all key is refl)

-- generations are numbered below their count, which is no more than a bound of all
generation_count-above : (packets : List Packet) (packet : Packet) → Contains packets packet → packet.generation < generation_count packets
generation_count-above [] packet is = absurd (omega (arith, is.1))
generation_count-above (one ∷ rest) packet (zero, within, is) = let same : one.generation ≡ packet.generation = ap (λ (packet : Packet). packet.generation) is in omega (arith, same)
generation_count-above (one ∷ rest) packet (suc place, within, is) = let later = generation_count-above rest packet (place, omega (arith, within), is) in omega (arith, later)

generation_count-most : (packets : List Packet) (count : ℕ) → All (λ packet. packet.generation < count) packets → generation_count packets ≤ count
generation_count-most [] count below = omega arith
generation_count-most (one ∷ rest) count below =
    let first = All-head (λ packet. packet.generation < count) one rest below in
    let later = generation_count-most rest count (All-tail (λ packet. packet.generation < count) one rest below) in
    omega (arith, first, later)

-- and has as many generations
pub stream-count : (code : Code) (pattern : ℕ) (window : Window) (stream : Stream) → AreNumbered code window → BringsTraffic code pattern window stream
    → is_live_in code pattern stream.link ≡ true → generation_count stream.packets ≡ length window.blocks
stream-count code pattern window stream numbered brings live =
    let count = length window.blocks in
    let below : All (λ packet. packet.generation < count) stream.packets =
    All-weaker (IsOfLink code pattern window stream.link) (λ packet. packet.generation < count)
    (λ packet is. omega (arith, numbered.from_start, is.is_key.numbered)) stream.packets brings.of_traffic in
    let last = has_place-piece stream (count - 1) 0 brings.is_stream (omega arith)
    (stream-whole code pattern window stream numbered brings live ((count - 1) * pieces + 0) (omega (arith, numbered.some))) in
    omega (
      arith,
      numbered.some,
      generation_count-most stream.packets count below,
      generation_count-above stream.packets last.0 last.1,
      last.2,
    )

-- ---- several streams

-- what holds of the packets of each stream holds of all packets
All-all_packets : (P : Packet → Type 0) (streams : List Stream) → All (λ stream. All P stream.packets) streams → All P (all_packets streams)
All-all_packets P [] each = All-nil P
All-all_packets P (stream ∷ streams) each =
    All-same P (all_packets (stream ∷ streams)) (stream.packets ++ all_packets streams) (flat_map-cons (λ stream. stream.packets) stream streams)
    (All-append P stream.packets (all_packets streams) (All-head (λ stream. All P stream.packets) stream streams each)
    (All-all_packets P streams (All-tail (λ stream. All P stream.packets) stream streams each)))

-- a key that the streams of a link have is among them
has_key-all_packets : (streams : List Stream) (link : ℕ) (key : Key) → Contains (map (λ stream. stream.link) streams) link
    → All (λ stream. stream.link ≡ link → has_key key stream.packets ≡ true) streams → has_key key (all_packets streams) ≡ true
has_key-all_packets [] link key there have = absurd (omega (arith, there.1))
has_key-all_packets (stream ∷ streams) link key (zero, within, is) have =
    ap (has_key key) (flat_map-cons (λ stream. stream.packets) stream streams)
    ∙ has_key-append key stream.packets (all_packets streams)
    ∙ or_left (has_key key stream.packets) (has_key key (all_packets streams))
    (All-head (λ stream. stream.link ≡ link → has_key key stream.packets ≡ true) stream streams have is)
has_key-all_packets (stream ∷ streams) link key (suc place, within, is) have =
    ap (has_key key) (flat_map-cons (λ stream. stream.packets) stream streams)
    ∙ has_key-append key stream.packets (all_packets streams)
    ∙ or_right (has_key key stream.packets) (has_key key (all_packets streams))
    (has_key-all_packets streams link key (place, omega (arith, within), is)
    (All-tail (λ stream. stream.link ≡ link → has_key key stream.packets ≡ true) stream streams have))

module _ (code : Code) (pattern : ℕ) (window : Window) (streams : List Stream) (bring : All (BringsTraffic code pattern window) streams) where
  -- what streams bring is of the traffic
  brought-are : AreOfTraffic code pattern window (all_packets streams)
  brought-are =
      All-all_packets (λ packet. packet ≡ packet_of code pattern window (key_of packet)) streams
      (All-weaker (BringsTraffic code pattern window) (λ stream. AreOfTraffic code pattern window stream.packets) (brings-is code pattern window) streams bring)

  -- and all of their links
  brought-has : (key : Key) → IsKey code pattern window key → Contains (map (λ stream. stream.link) streams) key.link → has_key key (all_packets streams) ≡ true
  brought-has key is there =
      has_key-all_packets streams key.link key there
      (All-weaker (BringsTraffic code pattern window) (λ stream. stream.link ≡ key.link → has_key key stream.packets ≡ true)
      (λ stream brings here. brings.all key is (sym here)) streams bring)

-- a live operand of a link out of a node is a live link into it
live_input : (code : Code) (pattern node link : ℕ) (operand : Operand) → Contains (outs_of code pattern node) link → IsLiveInto code pattern link operand
    → Contains (ins_of code pattern node) operand.from
live_input code pattern node link operand stands is =
    subst (λ node. Contains (ins_of code pattern node) operand.from) (is.into_tail ∙ (out code pattern node link stands).1)
    (ins-contains code pattern operand.from is.live)

-- an item that passes a test is among those that do
Contains-filter : {X : Type 0} (test : X → Bool) (xs : List X) (x : X) → Contains xs x → test x ≡ true → Contains (filter test xs) x
Contains-filter test [] x there passes = absurd (omega (arith, there.1))
Contains-filter test (first ∷ xs) x (zero, within, is) passes = let here : test first ≡ true = ap test is ∙ passes in rw here (0, omega arith, is)
Contains-filter test (first ∷ xs) x (suc place, within, is) passes =
    let rest = Contains-filter test xs x (place, omega (arith, within), is) passes in
    elim (cases_Bool (test first)) [
      | inl here ↦ rw here (suc rest.0, omega (arith, rest.1), rest.2)
      | inr not ↦ rw not rest
    ]

-- a live link of a sink's decoder is wanted
live_wanted : (code : Code) (demand link : ℕ) → demand < demand_count code.net → Contains (links_of code demand) link
    → is_live_in code (pattern_of_demand code.net demand) link ≡ true → Contains (wanted_links (sink_plan_of code demand)) link
live_wanted code demand link within there live =
    let plan = sink_plan_of code demand in
    let decoder = decoder_of_demand code.code demand within in
    let rising : is_rising plan.links ≡ true = rw decoder.1 decoder.2.rising in
    let is : get_or plan.links there.0 0 ≡ link = get_or_default plan.links there.0 0 link there.1 ∙ there.2 in
    let place : place_of plan link ≡ there.0 = ap (place_of plan) (sym is) ∙ place_of-at plan there.0 rising there.1 in
    let wanted : wants plan link ≡ true =
    ap (is_live_at plan) place
    ∙ get_or-map (is_live_in code (pattern_of_demand code.net demand)) plan.links there.0 0 false there.1
    ∙ ap (is_live_in code (pattern_of_demand code.net demand)) is
    ∙ live in
    Contains-filter (wants plan) plan.links link there wanted

-- the sums over what the links into a node brought are the traffic of the links out of it
pub sums-traffic : (code : Code) (pattern : ℕ) (window : Window) (streams : List Stream) (node : ℕ) → AreNumbered code window
    → All (BringsTraffic code pattern window) streams → map (λ stream. stream.link) streams ≡ ins_of code pattern node → (node == code.net.source) ≡ false
    → (link generation piece : ℕ) → Contains (outs_of code pattern node) link → generation < length window.blocks → piece < pieces
    → sums_in code pattern (all_packets streams) generation link piece ≡ payload_in code pattern (block_at window generation) piece link
sums-traffic code pattern window streams node numbered bring ins inner link generation piece stands below low =
    let key : Key = record { link = link; generation = generation; piece = piece } in
    let live = live_out code pattern node link stands in
    let leaves : leaves_source code.net link ≡ false = leaves_source-out code pattern node link stands ∙ inner in
    let came = all_packets streams in
    let operands : has_operands code pattern came key ≡ true =
    all_pass (IsLiveInto code pattern link) (λ operand. has_key (key_on operand.from key) came) (live_operands code pattern link)
    (λ operand into.
    brought-has code pattern window streams bring (key_on operand.from key)
    (key-is code pattern window operand.from generation piece numbered into.live below low)
    (subst (λ links. Contains links operand.from) (sym ins) (live_input code pattern node link operand stands into)))
    (live_operands-into code pattern link (live-below code pattern link live) leaves) in
    summed-is code pattern window numbered.blocks came key (brought-are code pattern window streams bring)
    (key-is code pattern window link generation piece numbered live below low) leaves operands

-- what the links that a sink wants brought is decoded to the blocks
pub decoded-traffic : (code : Code) (demand : ℕ) (window : Window) (streams : List Stream) → AreNumbered code window
    → All (BringsTraffic code (pattern_of_demand code.net demand) window) streams → map (λ stream. stream.link) streams ≡ wanted_links (sink_plan_of code demand)
    → IsAccepted code → demand < demand_count code.net → (generation : ℕ) → generation < length window.blocks
    → decoded_of code demand (all_packets streams) generation ≡ block_at window generation
decoded-traffic code demand window streams numbered bring wanted accepted within generation below =
    let pattern = pattern_of_demand code.net demand in
    let block = block_at window generation in
    let came = all_packets streams in
    let packets = packets_of code pattern window in
    let traffic : AreOfTraffic code pattern window packets = All-map (λ packet. packet ≡ packet_of code pattern window (key_of packet)) (packet_of code pattern window)
    (keys_of code pattern window) (λ k d within. refl) in
    let all : CameOf code pattern block packets generation =
    λ link piece live low.
    let is = key-is code pattern window link generation piece numbered live below low in
    known-payload code pattern window packets (record { link = link; generation = generation; piece = piece }) traffic
    (has_key-packets code pattern window (record { link = link; generation = generation; piece = piece }) is) in
    decoded-same code demand came packets generation
    (λ link piece among live low.
    let is = key-is code pattern window link generation piece numbered live below low in
    known-payload code pattern window came (record { link = link; generation = generation; piece = piece }) (brought-are code pattern window streams bring)
    (brought-has code pattern window streams bring (record { link = link; generation = generation; piece = piece }) is
    (subst (λ links. Contains links link) (sym wanted) (live_wanted code demand link within among live)))
    ∙ sym (all link piece live low))
    ∙ decoded-block code demand block accepted within
    (All-get_or (IsBlockOf code) window.blocks (generation - window.first) [] (omega (arith, numbered.from_start, below)) numbered.blocks)
    packets generation all

-- where no live link leads into a node that isn't the source, none leads out of it
pub no-ins-no-outs : (code : Code) (pattern node : ℕ) → (node == code.net.source) ≡ false → ins_of code pattern node ≡ [] → outs_of code pattern node ≡ []
no-ins-no-outs code pattern node inner none = empty (outs_of code pattern node) (λ link stands.
    let live = live_out code pattern node link stands in
    let operand = get_or (live_operands code pattern link) 0 (record { from = 0; times = 0 }) in
    let some : 0 < length (live_operands code pattern link) =
    length-filter-some (reads_live_in code pattern link) (operands_at code.operands link) (live-reads code pattern link live) in
    let into : IsLiveInto code pattern link operand =
    live_operands-into code pattern link (live-below code pattern link live) (leaves_source-out code pattern node link stands ∙ inner) 0 (record { from = 0; times = 0 }) some in
    let there = live_input code pattern node link operand stands into in
    omega (arith, there.1, ap (length {A = ℕ}) none))
  where
    empty : (links : List ℕ) → ((link : ℕ) → Contains links link → ⊥) → links ≡ []
    empty [] nothing = refl
    empty (link ∷ links) nothing = absurd (nothing link (0, omega arith, refl))
