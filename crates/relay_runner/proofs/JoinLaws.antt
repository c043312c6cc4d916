-- Blocks that are carried window after window are carried as one window.
use Rattle.std.specs.Prelude.{◌≡◌, ◌⊎◌, ◌<◌, ◌≤◌, ◌+◌, ◌-◌, ◌↔◌, ◌||◌, ℕ, zero, suc, Bool, true, false, cond, IsPermutation, List, [], ◌∷◌, ◌++◌, length, map, flat_map}
use Rattle.std.specs.List.{list_any, range_with_len}
use Rattle.std.proofs.Common.{arith, get_or, inl, inr, refl, sym, ap, subst, ◌∙◌}
use Rattle.std.proofs.lemmas.Bool.{cases_Bool, cases_lt, false≢true, or_cases, or_left, or_parts, or_right}
use Rattle.std.proofs.lemmas.Grind.{flat_map-append}
use Rattle.std.proofs.lemmas.List.{append_assoc, get_or_append_left, get_or-append_right, length-append, map-append}
use Rattle.std.proofs.lemmas.List.Elements.{All-append}
use Rattle.std.proofs.lemmas.List.Folds.{list_any-append, list_any_at}
use Rattle.std.proofs.lemmas.List.Sorted.{IsPermutation-append}
use Rattle.std.proofs.lemmas.List.Sums.{sum_by-append}
use Rattle.coded_traffic.proofs.KeyLaws.{keys-are}
use Rattle.coded_traffic.proofs.SumLaws.{sum_of-agree}
use Rattle.coded_traffic.specs.CodeBlocks.{IsBlockOf}
use Rattle.coded_traffic.specs.Traffic.{IsKey, Key, Window, block_at, is_same_key, key_of, keys_of, live_links_of, live_operands, packet_of, pair_of, payload_in, traffic_of}
use Rattle.failure_patterns.proofs.DemandLaws.{demand_of_number}
use Rattle.generation_frame.specs.Blocks.{pieces}
use Rattle.generation_frame.specs.declared.frame.Packet.{Packet}
use Rattle.lif_outside.proofs.OpenLaws.{still-closed}
use Rattle.lif_outside.specs.MoveLaws.{flights_given-append, pairs_put-append}
use Rattle.lif_outside.specs.Moves.{Move, flights_given, is_fault, pairs_put, took_none}
use Rattle.lif_outside.specs.declared.links.Flight.{Flight}
use Rattle.item_list.proofs.Maps.{map-agree}
use Rattle.net_model.specs.Demands.{pattern_of_demand}
use Rattle.net_model.specs.Walks.{leaves_source}
use Rattle.net_model.specs.declared.Demand.{Demand}
use Rattle.node_program.proofs.LiveLaws.{live-below}
use Rattle.node_program.specs.CodeValue.{is_live_in}
use Rattle.node_program.specs.declared.code.Code.{Code}
use Rattle.node_stations.proofs.DecodedLaws.{decoded-same}
use Rattle.node_stations.specs.Decoded.{decoded_of}
use Rattle.node_stations.specs.Opening.{demand_of}
use Rattle.node_stations.specs.Putting.{flight_of}
use Rattle.relay_core.proofs.PacketLaws.{itself, times-none}
use Rattle.relay_core.specs.Core.{has_key, key_on, payload_of, summed, times_of}
use Rattle.relay_core.specs.Runs.{AreRelayed}
use Rattle.relay_runner.proofs.GivenLaws.{payload-none}
use Rattle.relay_runner.specs.Carried.{IsCarried, packets_given}
use Rattle.relay_runner.specs.Carrying.{finds_nothing}
use Rattle.relay_runner.specs.Showing.{packets_in}

-- a range, and then what follows it
pub range-append : (a n m : ℕ) → range_with_len a (n + m) ≡ range_with_len a n ++ range_with_len (a + n) m
range-append a zero m =
    let count : zero + m ≡ m = omega arith in
    let start : a ≡ a + zero = omega arith in
    ap (range_with_len a) count ∙ ap (λ b. range_with_len b m) start
range-append a (suc n) m =
    let count : suc n + m ≡ suc (n + m) = omega arith in
    let start : a + 1 + n ≡ a + suc n = omega arith in
    ap (range_with_len a) count ∙ ap (λ rest. a ∷ rest) (range-append (a + 1) n m) ∙ ap (λ b. a ∷ (range_with_len (a + 1) n ++ range_with_len b m)) start

-- the payload of a key among packets and then others, where the packets have it and where they don't
payload_of-first : (packets others : List Packet) (key : Key) → has_key key packets ≡ true → payload_of (packets ++ others) key ≡ payload_of packets key
payload_of-first [] others key has = absurd (false≢true has)
payload_of-first (packet ∷ packets) others key has = elim (cases_Bool (is_same_key (key_of packet) key)) [
  | inl same ↦ rw same refl
  | inr apart ↦ rw apart (payload_of-first packets others key (rw apart at has))
]

payload_of-later : (packets others : List Packet) (key : Key) → has_key key packets ≡ false → payload_of (packets ++ others) key ≡ payload_of others key
payload_of-later [] others key none = refl
payload_of-later (packet ∷ packets) others key none =
    let parts = or_parts (is_same_key (key_of packet) key) (has_key key packets) none in
    let apart : is_same_key (key_of packet) key ≡ false = parts.0 in
    rw apart (payload_of-later packets others key parts.1)

-- others that don't have the key add nothing
payload_of-alone : (packets others : List Packet) (key : Key) → has_key key others ≡ false → payload_of (packets ++ others) key ≡ payload_of packets key
payload_of-alone packets others key none = elim (cases_Bool (has_key key packets)) [
  | inl has ↦ payload_of-first packets others key has
  | inr neither ↦ payload_of-later packets others key neither ∙ payload-none key others none ∙ sym (payload-none key packets neither)
]

-- the packets given by calls, and then by more
packets_given-append : (first later : List Move) → packets_given (first ++ later) ≡ packets_given first ++ packets_given later
packets_given-append first later = ap packets_in (flights_given-append first later) ∙ map-append _ (flights_given first) (flights_given later)

-- the pattern of the demand of a sink and a pattern
pattern-demand : (code : Code) (pattern place : ℕ) → pattern < length code.net.patterns → pattern_of_demand code.net (demand_of code pattern place) ≡ pattern
pattern-demand code pattern place within = ap (λ (demand : Demand). demand.pattern) (demand_of_number code.net (record { sink = place; pattern = pattern }) within)

module _ {faithful : Bool} {code : Code} {pattern : ℕ} {first : Window} {moves : List Move} (one : IsCarried faithful code pattern first moves) where
  -- of a generation outside of the window nothing came
  came-none : (key : Key) → (first.first ≤ key.generation → key.generation < first.first + length first.blocks → ⊥) → has_key key (packets_given moves) ≡ false
  came-none key outside = elim (cases_Bool (has_key key (packets_given moves))) [
    | inl has ↦ let is = (one.came key).0 has in absurd (outside is.begun is.numbered)
    | inr none ↦ none
  ]

  -- and nothing was put
  put-none : (key : Key) → (first.first ≤ key.generation → key.generation < first.first + length first.blocks → ⊥) → has_key key one.packets ≡ false
  put-none key outside = elim (cases_Bool (has_key key one.packets)) [
    | inl has ↦ let is = (one.all key).0 has in absurd (outside is.begun is.numbered)
    | inr none ↦ none
  ]

  -- what came decides about a generation of the window, whatever comes after it
  pub decoded-front : (later : List Move) (place generation : ℕ) → pattern < length code.net.patterns → first.first ≤ generation → generation < first.first + length first.blocks
      → decoded_of code (demand_of code pattern place) (packets_given (moves ++ later)) generation ≡ decoded_of code (demand_of code pattern place) (packets_given moves) generation
  decoded-front later place generation within begun numbered =
      decoded-same code (demand_of code pattern place) (packets_given (moves ++ later)) (packets_given moves) generation (λ link piece among is_live low.
      let key : Key = record { link = link; generation = generation; piece = piece } in
      let live : is_live_in code pattern link ≡ true = ap (λ p. is_live_in code p link) (sym (pattern-demand code pattern place within)) ∙ is_live in
      let is : IsKey code pattern first key = record { begun = begun; numbered = numbered; of_link = live-below code pattern link live; live = live; of_piece = low } in
      ap (λ (packets : List Packet). payload_of packets key) (packets_given-append moves later)
      ∙ payload_of-first (packets_given moves) (packets_given later) key ((one.came key).1 is))

  -- and nothing of it about one after the window
  pub decoded-back : (later : List Move) (place generation : ℕ) → first.first + length first.blocks ≤ generation
      → decoded_of code (demand_of code pattern place) (packets_given (moves ++ later)) generation ≡ decoded_of code (demand_of code pattern place) (packets_given later) generation
  decoded-back later place generation past =
      decoded-same code (demand_of code pattern place) (packets_given (moves ++ later)) (packets_given later) generation (λ link piece among is_live low.
      let key : Key = record { link = link; generation = generation; piece = piece } in
      ap (λ (packets : List Packet). payload_of packets key) (packets_given-append moves later)
      ∙ payload_of-later (packets_given moves) (packets_given later) key (came-none key (λ begun numbered. omega (arith, past, numbered))))

-- a window and then another, as one window
abbrev pub window-joined : Window → Window → Window
window-joined first second = record { first = first.first; blocks = first.blocks ++ second.blocks }

module _ (first second : Window) (follows : second.first ≡ first.first + length first.blocks) where
  -- both as one, and how many blocks they have
  abbrev joined : Window
  joined = window-joined first second

  count : length (first.blocks ++ second.blocks) ≡ length first.blocks + length second.blocks
  count = length-append first.blocks second.blocks

  -- the blocks of both windows
  block_at-first : (generation : ℕ) → first.first ≤ generation → generation < first.first + length first.blocks → block_at joined generation ≡ block_at first generation
  block_at-first generation begun numbered = get_or_append_left first.blocks second.blocks [] (generation - first.first) (omega (arith, begun, numbered))

  block_at-second : (generation : ℕ) → second.first ≤ generation → block_at joined generation ≡ block_at second generation
  block_at-second generation begun =
      let place : (generation - first.first) - length first.blocks ≡ generation - second.first = omega (arith, follows) in
      get_or-append_right first.blocks second.blocks (length first.blocks) (generation - first.first) [] refl (omega (arith, follows, begun))
      ∙ ap (λ n. get_or second.blocks n []) place

  module _ (code : Code) (pattern : ℕ) where
    -- a key of one of them is one of both
    is_key-first : (key : Key) → IsKey code pattern first key → IsKey code pattern joined key
    is_key-first key is =
        record { begun = is.begun; numbered = omega (arith, count, is.numbered); of_link = is.of_link; live = is.live; of_piece = is.of_piece }

    is_key-second : (key : Key) → IsKey code pattern second key → IsKey code pattern joined key
    is_key-second key is = record {
      begun = omega (arith, follows, is.begun);
      numbered = omega (arith, count, follows, is.numbered);
      of_link = is.of_link;
      live = is.live;
      of_piece = is.of_piece;
    }

    -- and a key of both is one of one of them
    is_key-either : (key : Key) → IsKey code pattern joined key → IsKey code pattern first key ⊎ IsKey code pattern second key
    is_key-either key is = elim (cases_lt key.generation second.first) [
      | inl before ↦ inl (record {
        begun = is.begun;
        numbered = omega (arith, follows, before);
        of_link = is.of_link;
        live = is.live;
        of_piece = is.of_piece;
      })
      | inr from ↦ inr (record {
        begun = from;
        numbered = omega (arith, count, follows, is.numbered);
        of_link = is.of_link;
        live = is.live;
        of_piece = is.of_piece;
      })
    ]

    -- the packet of a key of one of them is that of both
    packet_of-first : (key : Key) → IsKey code pattern first key → packet_of code pattern joined key ≡ packet_of code pattern first key
    packet_of-first key is =
        ap (λ (block : List ℕ). record { link = key.link; generation = key.generation; piece = key.piece; payload = payload_in code pattern block key.piece key.link })
        (block_at-first key.generation is.begun is.numbered)

    packet_of-second : (key : Key) → IsKey code pattern second key → packet_of code pattern joined key ≡ packet_of code pattern second key
    packet_of-second key is =
        ap (λ (block : List ℕ). record { link = key.link; generation = key.generation; piece = key.piece; payload = payload_in code pattern block key.piece key.link })
        (block_at-second key.generation is.begun)

    -- the keys of both
    keys_of-joined : keys_of code pattern joined ≡ keys_of code pattern first ++ keys_of code pattern second
    keys_of-joined =
        let keys : ℕ → List Key = λ generation.
        flat_map (λ link. map (λ piece. record { link = link; generation = generation; piece = piece }) (range_with_len 0 pieces)) (live_links_of code pattern) in
        ap (λ n. flat_map keys (range_with_len first.first n)) count
        ∙ ap (flat_map keys) (range-append first.first (length first.blocks) (length second.blocks))
        ∙ flat_map-append keys (range_with_len first.first (length first.blocks)) (range_with_len (first.first + length first.blocks) (length second.blocks))
        ∙ ap (λ start. flat_map keys (range_with_len first.first (length first.blocks)) ++ flat_map keys (range_with_len start (length second.blocks))) (sym follows)

    -- the traffic of both
    pub traffic_of-joined : traffic_of code pattern joined ≡ traffic_of code pattern first ++ traffic_of code pattern second
    traffic_of-joined =
        let pair : Window → Key → Flight = pair_of code pattern in
        ap (map (pair joined)) keys_of-joined ∙ map-append (pair joined) (keys_of code pattern first) (keys_of code pattern second)
        ∙ ap (λ flights. flights ++ map (pair joined) (keys_of code pattern second))
        (map-agree (pair joined) (pair first) (IsKey code pattern first) (λ key is. ap flight_of (packet_of-first key is)) (keys_of code pattern first) (keys-are code pattern first))
        ∙ ap (λ flights. traffic_of code pattern first ++ flights)
        (map-agree (pair joined) (pair second) (IsKey code pattern second) (λ key is. ap flight_of (packet_of-second key is)) (keys_of code pattern second) (keys-are code pattern second))

module _ {faithful : Bool} {code : Code} {pattern : ℕ} {first second : Window} {m1 m2 : List Move}
    (one : IsCarried faithful code pattern first m1) (other : IsCarried faithful code pattern second m2)
    (follows : second.first ≡ first.first + length first.blocks) where
  -- the calls of both, what was put by them and what came
  abbrev both : List Move
  both = m1 ++ m2

  abbrev packets : List Packet
  packets = one.packets ++ other.packets

  given : packets_given both ≡ packets_given m1 ++ packets_given m2
  given = packets_given-append m1 m2

  -- the payload of a key that came, by the window of its generation
  payload-first : (key : Key) → key.generation < first.first + length first.blocks → payload_of (packets_given both) key ≡ payload_of (packets_given m1) key
  payload-first key numbered =
      ap (λ (came : List Packet). payload_of came key) given
      ∙ payload_of-alone (packets_given m1) (packets_given m2) key (came-none other key (λ begun below. omega (arith, follows, numbered, begun)))

  payload-second : (key : Key) → second.first ≤ key.generation → payload_of (packets_given both) key ≡ payload_of (packets_given m2) key
  payload-second key begun =
      ap (λ (came : List Packet). payload_of came key) given
      ∙ payload_of-later (packets_given m1) (packets_given m2) key (came-none one key (λ from numbered. omega (arith, follows, numbered, begun)))

  -- and the sum over what came
  summed-first : (key : Key) → key.generation < first.first + length first.blocks → summed code pattern (packets_given both) key ≡ summed code pattern (packets_given m1) key
  summed-first key numbered =
      let live = live_operands code pattern key.link in
      sum_of-agree code.field live (λ operand. payload_of (packets_given both) (key_on operand.from key)) (λ operand. payload_of (packets_given m1) (key_on operand.from key))
      (λ k d within. payload-first (key_on (get_or live k d).from key) numbered)

  summed-second : (key : Key) → second.first ≤ key.generation → summed code pattern (packets_given both) key ≡ summed code pattern (packets_given m2) key
  summed-second key begun =
      let live = live_operands code pattern key.link in
      sum_of-agree code.field live (λ operand. payload_of (packets_given both) (key_on operand.from key)) (λ operand. payload_of (packets_given m2) (key_on operand.from key))
      (λ k d within. payload-second (key_on (get_or live k d).from key) begun)

  -- the key of what was put is one of its window
  key-first : (k : ℕ) (d : Packet) → k < length one.packets → IsKey code pattern first (key_of (get_or one.packets k d))
  key-first k d within =
      let key = key_of (get_or one.packets k d) in
      (one.all key).0 (list_any_at (λ packet. is_same_key (key_of packet) key) one.packets k d within (itself key))

  key-second : (k : ℕ) (d : Packet) → k < length other.packets → IsKey code pattern second (key_of (get_or other.packets k d))
  key-second k d within =
      let key = key_of (get_or other.packets k d) in
      (other.all key).0 (list_any_at (λ packet. is_same_key (key_of packet) key) other.packets k d within (itself key))

  -- what was put says where it comes from
  relayed-both : AreRelayed code pattern (window-joined first second) (packets_given both) packets
  relayed-both = record {
    from_source = All-append (λ packet. leaves_source code.net packet.link ≡ true → packet ≡ packet_of code pattern (window-joined first second) (key_of packet)) one.packets other.packets
        (λ k d within leaves.
        one.relayed.from_source k d within leaves
        ∙ sym (packet_of-first first second follows code pattern (key_of (get_or one.packets k d)) (key-first k d within)))
        (λ k d within leaves.
        other.relayed.from_source k d within leaves
        ∙ sym (packet_of-second first second follows code pattern (key_of (get_or other.packets k d)) (key-second k d within)));
    others = All-append (λ packet. leaves_source code.net packet.link ≡ false → packet.payload ≡ summed code pattern (packets_given both) (key_of packet)) one.packets other.packets
        (λ k d within inner. one.relayed.others k d within inner ∙ sym (summed-first (key_of (get_or one.packets k d)) (key-first k d within).numbered))
        (λ k d within inner. other.relayed.others k d within inner ∙ sym (summed-second (key_of (get_or other.packets k d)) (key-second k d within).begun));
  }

  -- no key was put twice
  once-both : (key : Key) → times_of key packets ≤ 1
  once-both key =
      let all : times_of key packets ≡ times_of key one.packets + times_of key other.packets =
      sum_by-append (λ packet. cond (is_same_key (key_of packet) key) 1 0) one.packets other.packets in
      elim (cases_lt key.generation second.first) [
        | inl before ↦
            let none : has_key key other.packets ≡ false = put-none other key (λ begun numbered. omega (arith, before, begun)) in
            omega (arith, all, one.once key, times-none key other.packets none)
        | inr from ↦
            let none : has_key key one.packets ≡ false = put-none one key (λ begun numbered. omega (arith, follows, from, numbered)) in
            omega (arith, all, other.once key, times-none key one.packets none)
      ]

  -- keys of two lists of packets, of which each has those of a window
  keys-both : (a b : List Packet) → ((key : Key) → (has_key key a ≡ true) ↔ IsKey code pattern first key)
      → ((key : Key) → (has_key key b ≡ true) ↔ IsKey code pattern second key)
      → (key : Key) → (has_key key (a ++ b) ≡ true) ↔ IsKey code pattern (window-joined first second) key
  keys-both a b in_a in_b key =
      let either : has_key key (a ++ b) ≡ (has_key key a || has_key key b) = list_any-append (λ packet. is_same_key (key_of packet) key) a b in (
        λ has. elim (or_cases (has_key key a) (has_key key b) (sym either ∙ has)) [
          | inl here ↦ is_key-first first second follows code pattern key ((in_a key).0 here)
          | inr there ↦ is_key-second first second follows code pattern key ((in_b key).0 there)
        ],
        λ is. elim (is_key-either first second follows code pattern key is) [
          | inl here ↦ either ∙ or_left (has_key key a) (has_key key b) ((in_a key).1 here)
          | inr there ↦ either ∙ or_right (has_key key a) (has_key key b) ((in_b key).1 there)
        ],
      )

  -- what is decoded of a generation is decoded of its window
  decoded-both : faithful ≡ true → (place generation : ℕ) → place < length code.net.sinks → first.first ≤ generation
      → generation < first.first + length (first.blocks ++ second.blocks)
      → decoded_of code (demand_of code pattern place) (packets_given both) generation ≡ block_at (window-joined first second) generation
  decoded-both is place generation sink begun numbered = elim (cases_lt generation second.first) [
    | inl before ↦
        let below : generation < first.first + length first.blocks = omega (arith, follows, before) in
        decoded-same code (demand_of code pattern place) (packets_given both) (packets_given m1) generation
        (λ link piece among live low. payload-first (record { link = link; generation = generation; piece = piece }) below)
        ∙ one.decoded is place generation sink begun below ∙ sym (block_at-first first second follows generation begun below)
    | inr from ↦
        let below : generation < second.first + length second.blocks = omega (arith, follows, numbered, count first second follows) in
        decoded-back one m2 place generation (omega (arith, follows, from))
        ∙ other.decoded is place generation sink from below ∙ sym (block_at-second first second follows generation from)
  ]

  -- two windows that were carried, one after the other, were carried as one
  pub carried-join : IsCarried faithful code pattern (window-joined first second) (m1 ++ m2)
  carried-join = record {
    are_blocks = All-append (IsBlockOf code) first.blocks second.blocks one.are_blocks other.are_blocks;
    closed = still-closed m1 m2 one.closed other.closed;
    well = list_any-append is_fault m1 m2 ∙ ap (λ b. b || list_any is_fault m2) one.well ∙ other.well;
    front = m1 ++ other.front;
    ended = ap (λ moves. m1 ++ moves) other.ended ∙ sym (append_assoc m1 other.front (took_none ∷ []));
    few_empty = omega (arith, one.few_empty, other.few_empty, sum_by-append (λ move. cond (finds_nothing move) 1 0) m1 m2, length-append first.blocks second.blocks);
    packets = packets;
    puts = subst (λ (flights : List Flight). IsPermutation flights (pairs_put both)) (sym (map-append flight_of one.packets other.packets))
        (subst (λ (flights : List Flight). IsPermutation (map flight_of one.packets ++ map flight_of other.packets) flights) (sym (pairs_put-append m1 m2))
        (IsPermutation-append (map flight_of one.packets) (pairs_put m1) (map flight_of other.packets) (pairs_put m2) one.puts other.puts));
    once = once-both;
    all = keys-both one.packets other.packets one.all other.all;
    came = λ key. subst (λ (came : List Packet). (has_key key came ≡ true) ↔ IsKey code pattern (window-joined first second) key) (sym given)
        (keys-both (packets_given m1) (packets_given m2) one.came other.came key);
    relayed = relayed-both;
    traffic = λ is. subst (λ (flights : List Flight). IsPermutation flights (pairs_put both)) (sym (traffic_of-joined first second follows code pattern))
        (subst (λ (flights : List Flight). IsPermutation (traffic_of code pattern first ++ traffic_of code pattern second) flights) (sym (pairs_put-append m1 m2))
        (IsPermutation-append (traffic_of code pattern first) (pairs_put m1) (traffic_of code pattern second) (pairs_put m2) (one.traffic is) (other.traffic is)));
    decoded = decoded-both;
  }
