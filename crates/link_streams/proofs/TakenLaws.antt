-- Laws of reading frames of the traffic on a link: each is taken, and together they are a stream of all that they bring.
use Rattle.std.specs.Prelude.{◌≡◌, ◌<◌, ◌+◌, ◌-◌, ◌*◌, ◌/◌, ◌%◌, ◌==◌, ◌&&◌, ◌||◌, ℕ, not, Bool, true, false, All, List, [], ◌∷◌, ◌++◌, drop, flat_map, get_or, length, map, nat_lt, take, Ok, Err}
use Rattle.std.specs.List.{range_with_len}
use Rattle.std.specs.Str.{bytes_eq}
use Rattle.std.proofs.Common.{refl, sym, ap, ◌∙◌, arith, inl, inr}
use Rattle.std.proofs.lemmas.Bool.{and_left, and_right, cases_Bool, cases_order, cond-false, eq-eqb, eqb-true, le-ltb, not_from_true}
use Rattle.std.proofs.lemmas.List.{drop-drop, drop_at, length-append, length-drop, length-take-le, take_at}
use Rattle.std.proofs.lemmas.List.Concat.{flat_map-cons}
use Rattle.std.proofs.lemmas.List.Elements.{All-contains, All-get_or, All-head, All-nil, All-tail, All-weaker}
use Rattle.std.proofs.lemmas.List.Folds.{Any-from_list_any, list_any_at, list_any_none}
use Rattle.std.proofs.lemmas.Slice.Eq.{bytes_eq-Decides}
use Rattle.coded_traffic.specs.CodeBlocks.{IsBlockOf, block_elements}
use Rattle.coded_traffic.specs.Traffic.{Key, Window, block_at, is_same_key, key_of, packet_of}
use Rattle.generation_frame.specs.Blocks.{piece_bytes, pieces}
use Rattle.generation_frame.specs.Frames.{Fits, frame_of, frame_read, packet_in}
use Rattle.generation_frame.specs.declared.frame.FrameRefusal.TheVariants.{BadPiece}
use Rattle.generation_frame.specs.declared.frame.Packet.{Packet}
use Rattle.linear_algebra.specs.Elements.{bytes_of_row}
use Rattle.node_program.specs.CodeValue.{value_in}
use Rattle.node_program.specs.declared.code.Code.{Code}
use Rattle.relay_core.proofs.ListLaws.{or_turned}
use Rattle.relay_core.proofs.PacketLaws.{itself, same_key}
use Rattle.relay_core.specs.Core.{has_key}
use Rattle.relay_runner.proofs.FlyingLaws.{fits-key, packet_in-frame_of}
use Rattle.sink_decoder.proofs.TrafficLaws.{length-value}
use Rattle.link_streams.proofs.FrameLaws.{length-frame_of}
use Rattle.link_streams.proofs.ReadingLaws.{packets_read-whole, reads-taken}
use Rattle.link_streams.proofs.StreamLaws.{All-put_in, IsStream-put_in, has_place-at, has_place-piece, put_in-earlier, put_in-later, put_in-same}
use Rattle.link_streams.specs.Chained.{AreNumbered, IsOfLink}
use Rattle.link_streams.specs.Reading.{frame_bytes, frames_in, is_conflict, packets_read, reads, taken}
use Rattle.link_streams.specs.Streams.{IsStream, Stream, has_place, place_of, put_in}

-- ---- frames one after another

-- a packet is read from its frame
frame_read-frame_of : (packet : Packet) → Fits packet → frame_read (frame_of packet) ≡ Ok packet
frame_read-frame_of packet fits =
    cond-false (nat_lt 7 packet.piece) (Err BadPiece) (Ok (packet_in (frame_of packet))) (le-ltb 7 packet.piece (omega (arith, fits.piece)))
    ∙ ap Ok (packet_in-frame_of packet fits)

-- a packet has a frame of so many bytes
abbrev pub HasFrame : Packet → Type 0
HasFrame packet = length (frame_of packet) ≡ frame_bytes

-- the bytes of frames
length-frames : (packets : List Packet) → All HasFrame packets → length (flat_map frame_of packets) ≡ length packets * frame_bytes
length-frames [] have = refl
length-frames (packet ∷ packets) have =
    ap (length {A = ℕ}) (flat_map-cons frame_of packet packets)
    ∙ omega (
      arith,
      length-append (frame_of packet) (flat_map frame_of packets),
      All-head HasFrame packet packets have,
      length-frames packets (All-tail HasFrame packet packets have),
    )

-- those from one on are the frames in bytes from its place on
frames-from : (packets : List Packet) (bytes : List ℕ) (number : ℕ) → All HasFrame packets → drop (number * frame_bytes) bytes ≡ flat_map frame_of packets
    → map (λ number. take frame_bytes (drop (number * frame_bytes) bytes)) (range_with_len number (length packets)) ≡ map frame_of packets
frames-from [] bytes number have are = refl
frames-from (packet ∷ packets) bytes number have are =
    let frame = frame_of packet in
    let long : length frame ≡ frame_bytes = All-head HasFrame packet packets have in
    let here : drop (number * frame_bytes) bytes ≡ frame ++ flat_map frame_of packets = are ∙ flat_map-cons frame_of packet packets in
    let first : take frame_bytes (drop (number * frame_bytes) bytes) ≡ frame = ap (take frame_bytes) here ∙ take_at frame (flat_map frame_of packets) frame_bytes long in
    let behind : drop ((number + 1) * frame_bytes) bytes ≡ flat_map frame_of packets =
    ap (λ n. drop n bytes) (omega arith) ∙ sym (drop-drop frame_bytes (number * frame_bytes) bytes) ∙ ap (drop frame_bytes) here ∙ drop_at frame (flat_map frame_of packets) frame_bytes long in
    ap (λ first. first ∷ map (λ number. take frame_bytes (drop (number * frame_bytes) bytes)) (range_with_len (number + 1) (length packets))) first
    ∙ ap (λ rest. frame ∷ rest) (frames-from packets bytes (number + 1) (All-tail HasFrame packet packets have) behind)

-- frames that stand one after another are the frames in these bytes, which are whole ones
pub frames_in-frames : (packets : List Packet) → All HasFrame packets → frames_in (flat_map frame_of packets) ≡ map frame_of packets
frames_in-frames packets have =
    let bytes = flat_map frame_of packets in
    let count : length bytes / frame_bytes ≡ length packets = omega (arith, length-frames packets have) in
    ap (λ count. map (λ number. take frame_bytes (drop (number * frame_bytes) bytes)) (range_with_len 0 count)) count ∙ frames-from packets bytes 0 have refl

pub whole_frames : (packets : List Packet) → All HasFrame packets → length (flat_map frame_of packets) % frame_bytes ≡ 0
whole_frames packets have = omega (arith, length-frames packets have)

-- ---- places and keys

-- tests of which one stands elsewhere, or twice
or_moved : (a b c : Bool) → (a || (b || c)) ≡ (b || (a || c))
or_moved true true c = refl
or_moved true false c = refl
or_moved false b c = refl

or_twice : (a b : Bool) → (a || b) ≡ (a || (a || b))
or_twice true b = refl
or_twice false b = refl

-- the places of packets with one more are its own and theirs
has_place-put_in : (packet : Packet) (packets : List Packet) (place : ℕ) → has_place (put_in packet packets) place ≡ ((place_of packet == place) || has_place packets place)
has_place-put_in packet [] place = refl
has_place-put_in packet (one ∷ rest) place = elim (cases_order (place_of packet) (place_of one)) [
  | inl same ↦
      ap (λ packets. has_place packets place) (put_in-same packet one rest same)
      ∙ or_twice (place_of one == place) (has_place rest place)
      ∙ ap (λ n. (n == place) || has_place (one ∷ rest) place) (sym same)
  | inr apart ↦ elim apart [
    | inl earlier ↦ ap (λ packets. has_place packets place) (put_in-earlier packet one rest earlier)
    | inr later ↦
        ap (λ packets. has_place packets place) (put_in-later packet one rest later)
        ∙ ap (λ has. (place_of one == place) || has) (has_place-put_in packet rest place)
        ∙ or_moved (place_of one == place) (place_of packet == place) (has_place rest place)
  ]
]

-- a key among packets has its place there
pub has_place-key : (packets : List Packet) (key : Key) → has_key key packets ≡ true → has_place packets (key.generation * pieces + key.piece) ≡ true
has_place-key packets key has =
    let any = Any-from_list_any (λ packet. is_same_key (key_of packet) key) packets has in
    let same : key_of any.1 ≡ key = same_key (key_of any.1) key any.4 in
    has_place-at packets any.0 any.1 (key.generation * pieces + key.piece) any.2 (ap place_of any.3 ∙ ap (λ (key : Key). key.generation * pieces + key.piece) same)

-- and in a stream the place of a key of its link is that of the key
pub has_key-place : (stream : Stream) (key : Key) → IsStream stream → key.link ≡ stream.link → key.piece < pieces
    → has_place stream.packets (key.generation * pieces + key.piece) ≡ true → has_key key stream.packets ≡ true
has_key-place stream key is here low has =
    let found = has_place-piece stream key.generation key.piece is low has in
    let link : found.0.link ≡ key.link = All-contains (λ packet. packet.link ≡ stream.link) stream.packets found.0 is.of_link found.1 ∙ sym here in
    let same : key_of found.0 ≡ key = λ i. record { link = link i; generation = found.2 i; piece = found.3 i } in
    list_any_at (λ packet. is_same_key (key_of packet) key) stream.packets found.1.0 found.0 found.1.1
    (ap (λ packet. is_same_key (key_of packet) key) found.1.2 ∙ ap (λ other. is_same_key other key) same ∙ itself key)

-- ---- frames of the traffic

module _ (code : Code) (pattern : ℕ) (window : Window) (link : ℕ) (numbered : AreNumbered code window) where
  abbrev Is : Packet → Type 0
  Is = IsOfLink code pattern window link

  abbrev stream_of : List Packet → Stream
  stream_of packets = record { link = link; packets = packets }

  is-fits : (packet : Packet) → Is packet → Fits packet
  is-fits packet is = fits-key code pattern window packet (omega (arith, numbered.from_start, numbered.few)) is.is_key

  -- a packet of the traffic has the bytes of a piece
  is-frame : (packet : Packet) → Is packet → HasFrame packet
  is-frame packet is =
      let block = block_at window packet.generation in
      let row : List ℕ = bytes_of_row code.field (value_in code pattern (block_elements code block) packet.link) in
      let is_block : IsBlockOf code block =
      All-get_or (IsBlockOf code) window.blocks (packet.generation - window.first) [] (omega (arith, is.is_key.begun, is.is_key.numbered)) numbered.blocks in
      let low : packet.piece < 8 = is.is_key.of_piece in
      let long : length (take piece_bytes (drop (packet.piece * piece_bytes) row)) ≡ piece_bytes =
      length-take-le piece_bytes (drop (packet.piece * piece_bytes) row)
      (omega (arith, low, length-drop (packet.piece * piece_bytes) row, length-value code pattern block is_block packet.link)) in
      length-frame_of packet (ap (λ (packet : Packet). length packet.payload) is.is ∙ long)

  -- packets of one place are one
  one-packet : (one other : Packet) → Is one → Is other → place_of one ≡ place_of other → one ≡ other
  one-packet one other is_one is_other place =
      let at : one.generation * 8 + one.piece ≡ other.generation * 8 + other.piece = place in
      let low_one : one.piece < 8 = is_one.is_key.of_piece in
      let low_other : other.piece < 8 = is_other.is_key.of_piece in
      let link : one.link ≡ other.link = is_one.on_link ∙ sym is_other.on_link in
      let generation : one.generation ≡ other.generation = omega (arith, at, low_one, low_other) in
      let piece : one.piece ≡ other.piece = omega (arith, at, low_one, low_other) in
      let same : key_of one ≡ key_of other = λ i. record { link = link i; generation = generation i; piece = piece i } in
      is_one.is ∙ ap (packet_of code pattern window) same ∙ sym is_other.is

  -- so they don't conflict, and each is taken
  no-conflict : (packets : List Packet) (packet : Packet) → All Is packets → Is packet → is_conflict packets packet ≡ false
  no-conflict packets packet are is =
      list_any_none (λ one. (place_of one == place_of packet) && not (bytes_eq one.payload packet.payload)) packets (λ k d within.
      let other = get_or packets k d in
      elim (cases_Bool (place_of other == place_of packet)) [
        | inl here ↦
            let same : other ≡ packet = one-packet other packet (are k d within) is (eqb-true _ _ here) in
            and_right _ _ (not_from_true _ ((bytes_eq-Decides other.payload packet.payload).1 (ap (λ (packet : Packet). packet.payload) same)))
        | inr apart ↦ and_left _ _ apart
      ])

  taken-is : (at : ℕ) (packets : List Packet) (packet : Packet) → All Is packets → Is packet
      → taken link at packets (frame_read (frame_of packet)) ≡ Ok (put_in packet packets)
  taken-is at packets packet are is =
      ap (taken link at packets) (frame_read-frame_of packet (is-fits packet is)) ∙ rw (eq-eqb packet.link link is.on_link, no-conflict packets packet are is) refl

  -- what is read after some packets: a stream of the traffic that has the places of those and of these
  record Reads (at : ℕ) (packets more all : List Packet) : Type 0 where
    reads : reads link at packets (map frame_of more) ≡ Ok all
    is_stream : IsStream (stream_of all)
    are : All Is all
    has : (place : ℕ) → (has_place packets place || has_place more place) ≡ true → has_place all place ≡ true

  reads-more : (at : ℕ) (packets more : List Packet) → IsStream (stream_of packets) → All Is packets → All Is more → (all : List Packet) × Reads at packets more all
  reads-more at packets [] is_stream are more_are =
      (packets, record { reads = refl; is_stream = is_stream; are = are; has = λ place has. or_false (has_place packets place) has })
    where
      or_false : (b : Bool) → (b || false) ≡ true → b ≡ true
      or_false true is = refl
      or_false false is = is
  reads-more at packets (packet ∷ more) is_stream are more_are =
      let is = All-head Is packet more more_are in
      let next = put_in packet packets in
      let rest = reads-more (at + frame_bytes) next more (IsStream-put_in (stream_of packets) packet is_stream (is-fits packet is) is.on_link)
      (All-put_in Is packet packets is are) (All-tail Is packet more more_are) in (
        rest.0,
        record {
          reads = reads-taken link at packets next (frame_of packet) (map frame_of more) (taken-is at packets packet are is) ∙ rest.1.reads;
          is_stream = rest.1.is_stream;
          are = rest.1.are;
          has = λ place has.
              rest.1.has place
              (ap (λ has. has || has_place more place) (has_place-put_in packet packets place)
              ∙ sym (or_turned (has_place packets place) (place_of packet == place) (has_place more place))
              ∙ has);
        },
      )

  -- so the frames of packets of the traffic are read as a stream of it, which has all of their keys
  pub reads-traffic : (packets : List Packet) → All Is packets
      → (all : List Packet) × (packets_read link (flat_map frame_of packets) ≡ Ok all) × IsStream (stream_of all) × All Is all
      × ((key : Key) → key.link ≡ link → key.piece < pieces → has_key key packets ≡ true → has_key key all ≡ true)
  reads-traffic packets are =
      let have : All HasFrame packets = All-weaker Is HasFrame is-frame packets are in
      let none : IsStream (stream_of []) = record { rising = refl; fit = All-nil Fits; of_link = All-nil (λ packet. packet.link ≡ link) } in
      let all = reads-more 0 [] packets none (All-nil Is) are in (
        all.0,
        packets_read-whole link (flat_map frame_of packets) (whole_frames packets have) ∙ ap (reads link 0 []) (frames_in-frames packets have) ∙ all.1.reads,
        all.1.is_stream,
        all.1.are,
        λ key here low has.
            has_key-place (stream_of all.0) key all.1.is_stream here low (all.1.has (key.generation * pieces + key.piece) (has_place-key packets key has)),
      )
